-- For every kind: a table whose words are tested is the picture of its functions, and every picture passes the test. Assumes nothing.
use mathlib.Core.Path.{◌≡◌, refl, sym, ap, ap₂, subst, ◌∙◌}
use mathlib.Core.List.{List, map}
use mathlib.Core.Option.{Option, some}
use Prim.Native.Nat.{ℕ, ◌+◌, ◌-◌, ◌≤◌, ◌<◌}
use native.Mathlib.Nat.{le_refl}
use native.Mathlib.Omega.{arith}
use lib.ListN.{length, get_or, length-map, get_or-eq_default}
use lib.Seq.{ext_get_or}
use Rattle.theory.specs.Kind.{Kind}
use Rattle.theory.specs.Settings.{FeatureList, Valid}
use Rattle.theory.specs.Functions.{Agree, Fun, zero_fun}
use Rattle.theory.specs.Diagrams.{Branch, Node, at, blank, empty, meaning}
use Rattle.theory.specs.WellFormed.{Fits, Ok, Under, WellFormed}
use Rattle.theory.specs.Build.{build, table}
use Rattle.theory.specs.Walk.{Tidy, scan, scans}
use Rattle.theory.proofs.Lists.{get_or_map_in, pos_of}
use Rattle.theory.proofs.Growing.{each_length}
use Rattle.theory.proofs.WellFormed.{all_ok_at, all_ok_of}
use Rattle.theory.proofs.Ordering.{tidy_is_table, table_is_tidy}
use Rattle.theory.proofs.Tables.{table_mean}
use Rattle.table_words.specs.Table.{Table, Regular, Spared, branches, node_at, nodes, roots_of}
use Rattle.table_words.specs.Picture.{node_hash, Shows, Pictures, Proper}
use Rattle.table_words.proofs.Chains.{last_ext}
use Rattle.table_words.proofs.Reading.{length_nodes, at_nodes, length_roots, at_roots, length_said, at_said}
use Rattle.table_words.proofs.Picture.{hash_shown}
use Rattle.table_words.proofs.Tab.{tab_ext, tab_of}
use Rattle.table_words.proofs.Words.{length_sizes, at_sizes, pos_sizes, sizes_show}
use Rattle.table_checks.specs.Header.{HeaderOf}
use Rattle.table_checks.proofs.Sitting.{NodeFits, nodes_wf, sits_good, good_sits, wf_node, wf_alone}
use Rattle.promises.specs.Words.{nodes_by, word, head, capacity, features, size, count, sizes, feature, body, hash_at, last_of}
use Rattle.promises.specs.Sound.{Chained, Sizes, Sits}

-- what is tested of the words of every kind
pub record Tested {K : Kind} (T : Table K) (w : List ℕ) : Type 0 where
  pub header : HeaderOf T w
  pub nodes_ok : (i : ℕ) → i < count w → NodeFits T w i
  pub spared : Spared T w
  pub chained : Chained w
  pub roots_ok : (p : ℕ) → p < T.places → Sits T.first w (count w) 0 (head w (32 + p))
  pub in_order : scans (scan (nodes T w) 0 (sizes w)) (roots_of T w) 0 ≡ some (count w)

module _ {K : Kind} {T : Table K} (L : Regular T) where
  -- ---- the roots and nodes of a tested table are those of its functions
  module _ {w : List ℕ} (s : Tested T w) where
    abbrev M : List (Node K)
    M = nodes T w

    length_M : length M ≡ count w
    length_M = length_nodes T w

    pub tested_wf : WellFormed (sizes w) M
    tested_wf = nodes_wf L w s.header.fit s.nodes_ok s.chained

    pub tested_root : (p : ℕ) → p < T.places → Ok M 0 (T.root_at w p)
    tested_root p h = rw (L.tops w p) (sits_good L w (count w) 0 (head w (32 + p)) (le_refl _) (s.roots_ok p h))

    pub tested_tidy : Tidy (sizes w) (roots_of T w) M
    tested_tidy =
        record {
          well = tested_wf;
          roots_ok = all_ok_of M (roots_of T w)
              (λ p h. let hp : p < T.places = omega (arith, length_roots T w) in subst (Ok M 0) (sym (at_roots T w p hp)) (tested_root p hp));
          in_order = s.in_order ∙ ap (λ (n : ℕ). let o : Option ℕ = some n in o) (sym length_M);
        }

    -- a place's function is what its root means
    said_mean : map (meaning M) (roots_of T w) ≡ T.said w
    said_mean =
        let l : length (map (meaning M) (roots_of T w)) ≡ T.places = length-map (roots_of T w) (meaning M) ∙ length_roots T w in
        ext_get_or zero_fun (map (meaning M) (roots_of T w)) (T.said w) (l ∙ sym (length_said L w))
        (λ p h.
        let hp : p < T.places = omega (arith, l) in
        get_or_map_in (meaning M) blank zero_fun (roots_of T w) p (omega (arith, length_roots T w)) ∙ ap (meaning M) (at_roots T w p hp) ∙ sym (at_said L w p hp))

    -- THEOREM: they are what building its functions in turn from nothing gives
    pub tested_table : table (sizes w) (T.said w) ≡ (roots_of T w, M)
    tested_table =
        ap (table (sizes w)) (sym said_mean)
        ∙ tidy_is_table (sizes w) (pos_sizes w (λ k h. omega (arith, (s.header.fit.large k h).0))) (roots_of T w) M tested_tidy

    bodies_are : (i v : ℕ) → i < count w → v < 12 → body w i v ≡ T.body_of (at M i) v
    bodies_are = L.bodies w (λ i h. (s.nodes_ok i h).padded)

    hash_is : (i : ℕ) → i < count w → hash_at w i ≡ node_hash T M i
    hash_is i h = hash_shown T M w i (sym (ap (λ (x : Node K). x.feature) (at_nodes T w i h))) (λ v hv. bodies_are i v h hv)

    shows_self : Shows T (capacity w) (sizes w) (roots_of T w) M w
    unfolding word head
    shows_self =
        let n = length_M in
        let h = s.header in
        let H : ℕ → ℕ = node_hash T M in
        record {
          long = h.front.room;
          kind_is = h.front.kind;
          room = refl;
          many = sym (length_sizes w);
          sizes_are = sizes_show w h.past;
          used = sym n;
          shares = h.shares;
          unused = h.unused;
          roots_are = L.roots w;
          middle = h.middle;
          heads = λ x hx. s.chained.heads x hx ∙ last_ext (hash_at w) H x (count w) hash_is ∙ ap (last_of H x) (sym n);
          tests = λ i hi. sym (ap (λ (x : Node K). x.feature) (at_nodes T w i (omega arith)));
          bodies = λ i v hi hv. bodies_are i v (omega arith) hv;
          links = λ i hi.
              let l : i < count w = omega arith in
              s.chained.linked.links i l ∙ ap (λ (x : ℕ). last_of (hash_at w) x i) (hash_is i l) ∙ last_ext (hash_at w) H (H i) i (λ j hj. hash_is j (omega arith));
          spare = λ i j hi hj. s.spared i j (omega arith) hj;
          clean = record { zeros = λ j hj g. h.clean.zeros j (omega arith) g };
        }

    -- THEOREM: a tested table is the picture of its functions
    pub tested_pictures : Pictures T (capacity w) (sizes w) (T.said w) w
    tested_pictures = subst (λ (q : List (Branch K) × List (Node K)). Shows T (capacity w) (sizes w) q.0 q.1 w) (sym tested_table) shows_self

    pub tested_list : FeatureList (sizes w)
    tested_list =
        let h = s.header in
        let l = length_sizes w in
        record {
          some = omega (arith, h.front.one);
          few = omega (arith, h.front.few);
          least = λ k hk. let f : k < features w = omega arith in omega (arith, at_sizes w k f, (h.fit.large k f).0);
          most = λ k hk. let f : k < features w = omega arith in omega (arith, at_sizes w k f, (h.fit.large k f).1);
        }

    pub tested_proper : ((p : ℕ) → p < T.places → (t : List ℕ) → Valid (sizes w) t → T.InRange (get_or (T.said w) p zero_fun t))
        → T.Shared (capacity w) (sizes w) (T.said w) → Proper T (capacity w) (sizes w) (T.said w)
    tested_proper range shared =
        let h = s.header.front in
        record {
          some = h.some;
          most = h.most;
          list = tested_list;
          places = length_said L w;
          range = range;
          fits = omega (arith, ap (λ (q : List (Branch K) × List (Node K)). length q.1) tested_table, length_M, h.within);
          shared = shared;
        }

  -- ---- a picture passes the test, if its words say its nodes and roots again
  module _ {cap : ℕ} {S : List ℕ} {gs : List (Fun K)} {w : List ℕ} (p : Proper T cap S gs) (d : Pictures T cap S gs w) where
    abbrev Rs : List (Branch K)
    Rs = (table S gs).0

    abbrev N : List (Node K)
    N = (table S gs).1

    tidy : Tidy S Rs N
    tidy = table_is_tidy S (pos_of S (λ k h. omega (arith, p.list.least k h))) gs

    sizes_said : sizes w ≡ S
    unfolding sizes
    sizes_said =
        tab_ext (size w) (λ k. get_or S k 0) (features w) (λ k h. d.sizes_are k (omega (arith, d.many, p.list.few))) ∙ tab_of 0 S (features w) (sym d.many)

    fits_in : (i : ℕ) → i < length N → Fits S N i (at N i)
    fits_in i h = tidy.well.fits i h

    size_says : (i : ℕ) → i < length N → length (at N i).branches ≡ size w (feature w i)
    size_says i h =
        let f = fits_in i h in
        f.full ∙ sym (ap (size w) (d.tests i h) ∙ d.sizes_are (at N i).feature (omega (arith, f.known, p.list.few)))

    -- as many branches as its feature has values
    pub shown_size : (i : ℕ) → i < length N → length (at N i).branches ≤ 8
    shown_size i h = let f = fits_in i h in omega (arith, f.full, p.list.most (at N i).feature f.known)

    -- what must be known of the kind
    module _ (arms : (i v : ℕ) → i < length N → v < length (at N i).branches → T.arm (T.body_of (at N i)) v ≡ get_or (at N i).branches v blank)
        (pads : (i : ℕ) → i < length N → T.Padded (length (at N i).branches) (T.body_of (at N i)))
        (tops : (q : ℕ) → q < T.places → T.root_at w q ≡ get_or Rs q blank) where
      node_shows : (i : ℕ) → i < length N → node_at T w i ≡ at N i
      node_shows i h = λ j. record { feature = d.tests i h j; branches = q j }
        where
          q : branches T (size w (feature w i)) (body w i) ≡ (at N i).branches
          q =
              tab_ext (T.arm (body w i)) (λ v. get_or (at N i).branches v blank) (size w (feature w i))
              (λ v hv. L.reads (body w i) (T.body_of (at N i)) v (omega (arith, size_says i h, shown_size i h)) (λ u hu. d.bodies i u h hu)
              ∙ arms i v h (omega (arith, size_says i h)))
              ∙ tab_of blank (at N i).branches (size w (feature w i)) (size_says i h)

      nodes_show : nodes T w ≡ N
      unfolding nodes_by
      nodes_show = tab_ext (node_at T w) (at N) (count w) (λ i h. node_shows i (omega (arith, d.used))) ∙ tab_of empty N (count w) (sym d.used)

      roots_show : roots_of T w ≡ Rs
      roots_show =
          ext_get_or blank (roots_of T w) Rs (length_roots T w ∙ sym (each_length (build 0 S) gs _ ∙ p.places))
          (λ q h. let l : q < T.places = omega (arith, length_roots T w) in at_roots T w q l ∙ tops q l)

      shown_wf : WellFormed (sizes w) (nodes T w)
      shown_wf = rw (nodes_show, sizes_said) tidy.well

      shown_pad : (i : ℕ) → i < count w → T.Padded (size w (feature w i)) (body w i)
      shown_pad i h =
          let l : i < length N = omega (arith, d.used) in
          subst (λ (m : ℕ). T.Padded m (body w i)) (size_says i l)
          (L.padded (length (at N i).branches) (T.body_of (at N i)) (body w i) (λ u hu. sym (d.bodies i u l hu)) (pads i l))

      shown_sizes : Sizes w
      shown_sizes =
          record {
            large = λ k h.
                let l : k < length S = omega (arith, d.many) in
                let e = d.sizes_are k (omega (arith, p.list.few)) in
                (omega (arith, p.list.least k l), omega (arith, p.list.most k l));
          }

      hash_said : (i : ℕ) → i < length N → hash_at w i ≡ node_hash T N i
      hash_said i h = hash_shown T N w i (d.tests i h) (λ v hv. d.bodies i v h hv)

      shown_header : HeaderOf T w
      unfolding head
      shown_header =
          let n = d.used in
          let m = d.many in
          let c = d.room in
          record {
            front = record {
              kind = d.kind_is;
              some = omega (arith, p.some);
              most = omega (arith, p.most);
              room = omega (arith, d.long);
              one = omega (arith, p.list.some);
              few = omega (arith, p.list.few);
              within = omega (arith, p.fits);
            };
            fit = shown_sizes;
            past = record {
              zeros = λ j h g.
                  let e : j ≡ 3 + (j - 3) = omega arith in
                  ap (λ (x : ℕ). get_or w x 0) e ∙ d.sizes_are (j - 3) (omega arith) ∙ get_or-eq_default S 0 (omega arith);
            };
            shares = d.shares;
            unused = d.unused;
            middle = d.middle;
            clean = record { zeros = λ j h g. d.clean.zeros j (omega arith) (omega arith) };
          }

      shown_chained : Chained w
      shown_chained =
          let n = d.used in
          let H : ℕ → ℕ = node_hash T N in
          record {
            linked = record {
              links = λ i h.
                  let l : i < length N = omega arith in
                  d.links i l ∙ ap (λ (x : ℕ). last_of H x i) (sym (hash_said i l)) ∙ sym (last_ext (hash_at w) H (hash_at w i) i (λ j g. hash_said j (omega arith)));
            };
            heads = λ x h. d.heads x h ∙ sym (last_ext (hash_at w) H x (length N) hash_said) ∙ ap (last_of (hash_at w) x) (sym n);
            single = wf_alone L w shown_sizes shown_wf;
          }

      -- THEOREM
      pub picture_tested : Tested T w
      unfolding word
      picture_tested =
          let n = d.used in
          record {
            header = shown_header;
            nodes_ok = wf_node L w shown_sizes shown_wf shown_pad;
            spared = λ i j h hj.
                d.spare i j (omega arith) hj ∙ sym (ap₂ (λ (Z : List ℕ) (A : List (Node K)). T.spare_of Z A i j) sizes_said nodes_show);
            chained = shown_chained;
            roots_ok = λ q h.
                good_sits L w 0 (head w (32 + q))
                (subst (λ t. Under (nodes T w) (length (nodes T w)) 0 t) (L.tops w q)
                (rw (tops q h, nodes_show) (all_ok_at N Rs q tidy.roots_ok)));
            in_order = rw (nodes_show, sizes_said, roots_show) (tidy.in_order ∙ ap (λ (x : ℕ). let o : Option ℕ = some x in o) (sym n));
          }

      -- THEOREM: what the words say are the capacity, the feature list and the functions that they picture
      pub picture_said : (capacity w ≡ cap) × (sizes w ≡ S) × ((q : ℕ) → q < T.places → Agree S (get_or (T.said w) q zero_fun) (get_or gs q zero_fun))
      picture_said = (d.room, sizes_said, agree)
        where
          agree : (q : ℕ) → q < T.places → Agree S (get_or (T.said w) q zero_fun) (get_or gs q zero_fun)
          agree q h t x =
              ap (λ (g : Fun K). g t) (at_said L w q h)
              ∙ ap (λ (A : List (Node K)). meaning A (T.root_at w q) t) nodes_show
              ∙ ap (λ (b : Branch K). meaning N b t) (tops q h)
              ∙ (table_mean S gs q (omega (arith, p.places))).says t x
