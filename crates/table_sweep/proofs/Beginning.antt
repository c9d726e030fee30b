-- The first places of a table: their functions built in turn give the front of its nodes, up to the highest root among them. Assumes nothing.
use mathlib.Core.Path.{◌≡◌, refl, sym, ap, ap₂, subst, ◌∙◌}
use mathlib.Core.Logic.{⊎_elim}
use mathlib.Core.List.{List, [], ◌∷◌, ◌++◌}
use Prim.Native.Nat.{ℕ, zero, suc, ◌+◌, ◌-◌, ◌≤◌, ◌<◌}
use native.Mathlib.Omega.{arith}
use lib.ListN.{length, get_or, take}
use lib.Seq.{get_or-append_seam, take-append-le, take-length}
use Rattle.theory.specs.Build.{Built, Ext, build, table}
use Rattle.theory.specs.Diagrams.{Branch, Node, Target, blank, meaning}
use Rattle.theory.specs.Functions.{Fun}
use Rattle.theory.specs.Kind.{Kind}
use Rattle.theory.proofs.Growing.{build_grows, each_append, each_length, ext_le, ext_trans, take_ext}
use Rattle.theory.proofs.Tables.{table_wf}
use Rattle.theory.proofs.Topping.{Topped, above, build_topped}
use Rattle.table_words.specs.Table.{Table, Regular, nodes, fun_at}
use Rattle.table_words.proofs.Reading.{length_nodes}
use Rattle.table_words.proofs.Tab.{split, tab_none, tab_snoc, length_tab, tab_ext}
use Rattle.table_sweep.specs.Marks.{higher, highest}
use Rattle.table_sweep.specs.Tidy.{Begun}
use Rattle.table_sweep.proofs.Marking.{higher_up, higher_stay, highest_none, highest_more}
use Rattle.promises.specs.Tab.{tab}
use Rattle.promises.specs.Words.{head, count, sizes}

-- what building the functions of the first p places gives
abbrev so_far : {K : Kind} (T : Table K) → List ℕ → ℕ → List (Branch K) × List (Node K)
so_far T w p = table (sizes w) (tab (fun_at T w) p)

module _ {K : Kind} (T : Table K) where
  one_more : (w : List ℕ) (p : ℕ) → let r = build 0 (sizes w) (fun_at T w p) (so_far T w p).1 in so_far T w (suc p) ≡ ((so_far T w p).0 ++ (r.0 ∷ []), r.1)
  one_more w p =
      ap (table (sizes w)) (tab_snoc (fun_at T w) p) ∙ each_append (build 0 (sizes w)) (tab (fun_at T w) p) (fun_at T w p ∷ []) []

  -- as many roots as places
  many : (w : List ℕ) (p : ℕ) → length (so_far T w p).0 ≡ p
  many w p = each_length (build 0 (sizes w)) (tab (fun_at T w) p) [] ∙ length_tab (fun_at T w) p

module _ {K : Kind} {T : Table K} where
  module _ {w : List ℕ} {p : ℕ} (b : Begun T (suc p) w) where
    abbrev last : Built K
    last = build 0 (sizes w) (fun_at T w p) (so_far T w p).1

    both : (so_far T w p).0 ++ (last.0 ∷ []) ≡ tab (T.root_at w) p ++ (T.root_at w p ∷ [])
    both = sym (ap (λ (q : List (Branch K) × List (Node K)). q.0) (one_more T w p)) ∙ b.roots ∙ tab_snoc (T.root_at w) p

    last_root : last.0 ≡ T.root_at w p
    last_root =
        sym (get_or-append_seam (so_far T w p).0 last.0 [] blank)
        ∙ ap₂ (λ (bs : List (Branch K)) (n : ℕ). get_or bs n blank) both (many T w p ∙ sym (length_tab (T.root_at w) p))
        ∙ get_or-append_seam (tab (T.root_at w) p) (T.root_at w p) [] blank

    first_roots : (so_far T w p).0 ≡ tab (T.root_at w) p
    first_roots =
        sym (take-length (so_far T w p).0)
        ∙ sym (take-append-le (length (so_far T w p).0) (so_far T w p).0 (last.0 ∷ []) (omega arith))
        ∙ ap₂ (λ (n : ℕ) (bs : List (Branch K)). take n bs) (many T w p ∙ sym (length_tab (T.root_at w) p)) both
        ∙ take-append-le (length (tab (T.root_at w) p)) (tab (T.root_at w) p) (T.root_at w p ∷ []) (omega arith)
        ∙ take-length (tab (T.root_at w) p)

    -- one place fewer
    begun_less : Begun T p w
    begun_less =
        record {
          roots = first_roots;
          front = ext_trans (build_grows 0 (sizes w) (fun_at T w p) (so_far T w p).1)
              (subst (λ (q : List (Branch K) × List (Node K)). Ext q.1 (nodes T w)) (one_more T w p) b.front);
        }

  pub begun_down : {w : List ℕ} (d p n : ℕ) → p + d ≡ n → Begun T n w → Begun T p w
  begun_down {w} zero p n e b = let q : n ≡ p = omega arith in subst (λ (m : ℕ). Begun T m w) q b
  begun_down {w} (suc d) p n e b = let q : n ≡ suc (p + d) = omega arith in begun_down d p (p + d) refl (begun_less (subst (λ (m : ℕ). Begun T m w) q b))

  -- the front of the nodes, by its length
  pub begun_front : {w : List ℕ} {p : ℕ} → Begun T p w → ((so_far T w p).1 ≡ take (length (so_far T w p).1) (nodes T w)) × (length (so_far T w p).1 ≤ count w)
  begun_front {w} {p} b = (
    sym (take-length (so_far T w p).1) ∙ sym (take_ext (length (so_far T w p).1) b.front (omega arith)),
    omega (arith, ext_le b.front, length_nodes T w),
  )

  -- the same roots and nodes begin alike
  pub begun_same : {w w' : List ℕ} (p : ℕ) → sizes w' ≡ sizes w → nodes T w' ≡ nodes T w → ((q : ℕ) → q < p → T.root_at w' q ≡ T.root_at w q) → Begun T p w → Begun T p w'
  begun_same {w} {w'} p es en er b =
      let r : tab (T.root_at w') p ≡ tab (T.root_at w) p = tab_ext (T.root_at w') (T.root_at w) p er in
      let f : tab (fun_at T w) p ≡ tab (fun_at T w') p = tab_ext (fun_at T w) (fun_at T w') p
      (λ q h. sym (ap₂ (λ (N : List (Node K)) (c : Branch K). let g : Fun K = meaning N c in g) en (er q h))) in
      let e : so_far T w p ≡ so_far T w' p = ap₂ (λ (S : List ℕ) (gs : List (Fun K)). table S gs) (sym es) f in
      record {
        roots = ap (λ (q : List (Branch K) × List (Node K)). q.0) (sym e) ∙ b.roots ∙ sym r;
        front = subst (λ (q : List (Branch K) × List (Node K)). Ext q.1 (nodes T w')) e (subst (Ext (so_far T w p).1) (sym en) b.front);
      }

module _ {K : Kind} {T : Table K} (L : Regular T) where
  -- 1 + the node that a branch word says, 0 for an end
  above_word : (x : ℕ) → above (T.goal x) ≡ suc x - T.first
  above_word x = ⊎_elim
      (λ h. let e = L.ends x h in ap (λ (t : Target K). above t) e.1 ∙ (let z : 0 ≡ suc x - T.first = omega arith in z))
      (λ h.
      let q : x ≡ T.first + (x - T.first) = omega arith in
      ap (λ (t : Target K). above t) (ap T.goal q ∙ L.indices (x - T.first)) ∙ (let z : suc (x - T.first) ≡ suc x - T.first = omega arith in z))
      (split x T.first)

  -- one place more: the root is the last node, where any was added
  module _ {w : List ℕ} {p : ℕ} (b : Begun T (suc p) w) (ih : highest T.first w p ≡ length (so_far T w p).1) where
    topped : Topped (so_far T w p).1 (last b)
    topped = build_topped (sizes w) (fun_at T w p) (so_far T w p).1 (table_wf (sizes w) (tab (fun_at T w) p))

    up : above (last b).0.to ≡ suc (head w (32 + p)) - T.first
    up = ap (λ (c : Branch K). above c.to) (last_root b) ∙ ap (λ (x : Target K). above x) (L.tops w p) ∙ above_word (head w (32 + p))

    stays : suc (head w (32 + p)) - T.first ≤ highest T.first w p → length (so_far T w p).1 ≡ length (last b).1
    stays h = ⊎_elim (λ l. absurd (omega (arith, ih, up, topped.last l))) (λ l. omega (arith, topped.grows)) (split (length (so_far T w p).1) (length (last b).1))

    step : higher (highest T.first w p) (suc (head w (32 + p)) - T.first) ≡ length (last b).1
    step = ⊎_elim
        (λ h. higher_up (highest T.first w p) (suc (head w (32 + p)) - T.first) h ∙ sym up ∙ topped.last (omega (arith, ih, up, topped.within)))
        (λ h. higher_stay (highest T.first w p) (suc (head w (32 + p)) - T.first) h ∙ ih ∙ stays h)
        (split (highest T.first w p) (suc (head w (32 + p)) - T.first))

  -- THE HIGHEST ROOT of the first p places is the last node of their functions built in turn
  pub highest_is : {w : List ℕ} (p : ℕ) → Begun T p w → highest T.first w p ≡ length (table (sizes w) (tab (fun_at T w) p)).1
  highest_is {w} zero b = highest_none T.first w ∙ ap (λ (gs : List (Fun K)). length (table (sizes w) gs).1) (sym (tab_none (fun_at T w)))
  highest_is {w} (suc p) b =
      highest_more T.first w p ∙ step b (highest_is p (begun_less b)) ∙ ap (λ (q : List (Branch K) × List (Node K)). length q.1) (sym (one_more T w p))
