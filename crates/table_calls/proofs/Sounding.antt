-- What a tested table gives a call, for every kind: it can be built onto, a place may be replaced, and its nodes are tallied. Assumes nothing.
use mathlib.Core.Path.{◌≡◌, sym, ap, subst, ◌∙◌}
use mathlib.Core.List.{List}
use Prim.Native.Nat.{ℕ, ◌-◌, ◌≤◌}
use native.Mathlib.Omega.{arith}
use lib.ListN.{length}
use Rattle.theory.specs.Build.{Ext, table}
use Rattle.theory.specs.Diagrams.{Branch, Node}
use Rattle.theory.specs.Functions.{Fun}
use Rattle.theory.specs.Kind.{Kind}
use Rattle.theory.specs.Settings.{Pos}
use Rattle.theory.specs.Tally.{tally}
use Rattle.theory.proofs.Growing.{ext_refl}
use Rattle.theory.proofs.Ranges.{features_pos}
use Rattle.theory.proofs.Rests.{nodes_tally}
use Rattle.table_words.specs.Holding.{Holds}
use Rattle.table_words.specs.Table.{Table, Regular, nodes, roots_of, funs_of}
use Rattle.table_words.proofs.Reading.{length_nodes}
use Rattle.table_records.specs.Laid.{Laid}
use Rattle.table_records.specs.Nodes.{layout_of}
use Rattle.table_checks.proofs.Pictures.{Tested, tested_wf, tested_root, tested_list, tested_table}
use Rattle.table_sweep.specs.Tidy.{Begun, Untidy}
use Rattle.table_sweep.proofs.Beginning.{begun_down}
use Rattle.promises.specs.Words.{word, count, sizes}

module _ {K : Kind} {T : Table K} (L : Regular T) {w : List ℕ} (s : Tested T w) where
  pub tested_pos : Pos (sizes w)
  tested_pos = features_pos (sizes w) (tested_list L s)

  laid : Laid w
  unfolding word
  laid =
      let h = s.header in
      record {
        room = omega (arith, h.front.room);
        within = h.front.within;
        most = h.front.most;
        few = h.front.few;
        large = h.fit.large;
        tests = λ i l. (s.nodes_ok i l).known;
        links = s.chained.linked.links;
        heads = s.chained.heads;
        clean = λ j a b. h.clean.zeros j a (omega arith);
      }

  -- it can be built onto
  pub tested_holds : Holds (layout_of T) w
  tested_holds = record { laid = record { laid = laid; padded = λ i h. (s.nodes_ok i h).padded; spared = s.spared }; wf = tested_wf L s }

  -- the roots and nodes are those of the functions of the places built in turn, of the first p too
  whole_begun : Begun T T.places w
  whole_begun =
      let e : table (sizes w) (funs_of T w) ≡ (roots_of T w, nodes T w) = ap (λ (gs : List (Fun K)). table (sizes w) gs) (sym (L.said w)) ∙ tested_table L s in
      record {
        roots = ap (λ (q : List (Branch K) × List (Node K)). q.0) e;
        front = subst (λ (N : List (Node K)). Ext N (nodes T w)) (sym (ap (λ (q : List (Branch K) × List (Node K)). q.1) e)) (ext_refl (nodes T w));
      }

  pub tested_begun : (p : ℕ) → p ≤ T.places → Begun T p w
  tested_begun p h = begun_down (T.places - p) p T.places (omega arith) whole_begun

  -- place p may be replaced
  pub tested_untidy : (p : ℕ) → p ≤ T.places → Untidy T p w
  tested_untidy p l =
      let h = s.header in
      record {
        room = h.front.room;
        some = h.front.some;
        most = h.front.most;
        kind_is = h.front.kind;
        list = tested_list L s;
        past_sizes = h.past;
        within = h.front.within;
        shares = h.shares;
        unused = h.unused;
        middle = h.middle;
        clean = h.clean;
        wf = tested_wf L s;
        spared = s.spared;
        padded = λ i g. (s.nodes_ok i g).padded;
        links = s.chained.linked.links;
        heads = s.chained.heads;
        rooted = tested_root L s;
        begun = tested_begun p l;
      }

  -- TALLY: the nodes in use are as many as the distinct rests of all places
  pub tested_tally : count w ≡ tally (sizes w) (T.said w)
  tested_tally =
      sym (length_nodes T w)
      ∙ sym (ap (λ (q : List (Branch K) × List (Node K)). length q.1) (tested_table L s))
      ∙ nodes_tally (sizes w) tested_pos (T.said w)
