-- A result built branch by branch (the laws of every kind), for the lists of targets and added words that the code fills. Assumes nothing.
use Rattle.std.specs.Prelude.{Option, Some, None}
use mathlib.Core.Bool.{Bool}
use mathlib.Core.Path.{◌≡◌, refl, sym, ap, ap₂, subst, ◌∙◌}
use mathlib.Core.List.{List, [], ◌∷◌, ◌++◌}
use Prim.Native.Nat.{ℕ, suc, ◌+◌, ◌≤◌, ◌<◌}
use native.Mathlib.Nat.{le_refl, zero-add}
use native.Mathlib.Numerals.{add-one}
use native.Mathlib.Omega.{arith}
use lib.IntN.{◌-ℤ◌}
use lib.ListN.{length, get_or, drop, set, length-set, replicate, get_or-replicate}
use lib.Seq.{get_or-set_same, get_or-set_other, drop-cons}
use Rattle.theory.specs.Build.{Built, Ext, build, make}
use Rattle.theory.specs.Costs.{costs, Cost}
use Rattle.theory.specs.Diagrams.{Branch, base, blank}
use Rattle.theory.specs.Functions.{held, parts}
use Rattle.theory.specs.Settings.{Valid, zeros}
use Rattle.theory.specs.WellFormed.{Mean, Ok}
use Rattle.theory.proofs.Lists.{pos_drop}
use Rattle.theory.proofs.Meaning.{Rights, build_right, each_right}
use Rattle.theory.proofs.Ranges.{zeros_valid}
use Rattle.theory.proofs.Values.{means_at, value_zeros}
use Rattle.theory_costs.specs.Narrow.{Spread, Narrow}
use Rattle.theory_costs.proofs.Narrow.{branches_narrow}
use Rattle.theory_costs.proofs.Nearing.{arms_near}
use Rattle.cost_words.proofs.Summing.{way}
use Rattle.theory.specs.Settings.{Pos}
use Rattle.theory_costs.specs.Extremes.{Passed, along}
use Rattle.theory_costs.proofs.Relative.{offs}
use Rattle.table_words.specs.Holding as H
use Rattle.table_words.specs.Holding.{each_to}
use Rattle.table_words.proofs.Filling as F
use Rattle.table_words.proofs.Tab.{tab_none, tab_snoc, tab_ext, get_or_tab}
use Rattle.table_words.proofs.Words.{length_sizes, at_sizes, kept_size}
use Rattle.cost_nodes.specs.Nodes.{layout, Holds, told, Gives, Result, Makes, built, arms, Armed, Filling, Stopped, Fills}
use Rattle.cost_words.specs.Words.{tos, adding}
use Rattle.cost_words.specs.declared.Arm.{Arm}
use Rattle.cost_nodes.proofs.Reading.{lawful, holds_passed}
use Rattle.promises.specs.Integers.{Fit, int}
use Rattle.promises.specs.Range.{add_most}
use Rattle.promises.specs.CostSound.{kept, side_of}
use Rattle.promises.specs.Words.{features, size, sizes}
use Rattle.promises.specs.CostWords.{cost_branch as branch, cost_node_list as nodes}

-- the branch whose words are 0
abbrev pub no_arm : Arm
no_arm = record { to = 0; adds = 0 }

module _ (w : List ℕ) (k : ℕ) (g : Cost) (ok : Holds w) (hk : k < features w) where
  hs : k < length (sizes w)
  hs = omega (arith, length_sizes w)

  most : size w k ≤ 8
  most = (ok.laid.laid.large k hk).1

  pub fill_start : Filling w w k g 0 (replicate 8 no_arm)
  fill_start =
      record {
        filled = subst (H.Filled layout w w k g 0) (sym (tab_none (λ v. branch (tos (replicate 8 no_arm) v) (adding (replicate 8 no_arm) v)))) (F.fill_start lawful w k g ok hs);
        pad = λ u l h. ap (λ (c : Arm). c.to) (get_or-replicate 8 u no_arm no_arm h);
        long = refl;
      }

  one_more : (v : ℕ) (c : Arm) (b : List Arm) → v < length b → arms v b ++ (branch c.to c.adds ∷ []) ≡ arms (v + 1) (set b v c)
  one_more v c b h =
      sym (ap (λ (j : ℕ). arms j (set b v c)) (add-one v) ∙ tab_snoc (λ u. branch (tos (set b v c) u) (adding (set b v c) u)) v
      ∙ ap₂ (λ (p : List (Branch costs)) (q : Branch costs). p ++ (q ∷ []))
      (tab_ext (λ u. branch (tos (set b v c) u) (adding (set b v c) u)) (λ u. branch (tos b u) (adding b u)) v
      (λ u h. ap (λ (a : Arm). branch a.to a.adds) (get_or-set_other b v u c no_arm (omega arith))))
      (ap (λ (a : Arm). branch a.to a.adds) (get_or-set_same b v c no_arm h)))

  -- the call for branch v answered the branch c
  pub fill_more : (t t' : List ℕ) (v : ℕ) (c : Arm) (b : List Arm) (h : Cost) (o : Option Arm) → Filling w t k g v b → v < size w k → ((s : List ℕ) → held v g s ≡ h s)
      → Result t t' (k + 1) h o → o ≡ Some c → Filling w t' k g (v + 1) (set b v c)
  fill_more t t' v c b h o f lt e r is =
      let m : v < 8 = omega (arith, most) in
      record {
        filled = subst (H.Filled layout w t' k g (v + 1)) (one_more v c b (omega (arith, f.long)))
            (F.fill_more lawful w k g ok hs t t' v (arms v b) h (branch c.to c.adds) f.filled e (subst (λ (q : Option Arm). Result t t' (k + 1) h q) is r));
        pad = λ u l l'. ap (λ (a : Arm). a.to) (get_or-set_other b v u c no_arm (omega arith)) ∙ f.pad u (omega arith) l';
        long = length-set b v c ∙ f.long;
      }

  -- it found no room
  pub fill_stop : (t t' : List ℕ) (v : ℕ) (b : List Arm) (h : Cost) (o : Option Arm) → Filling w t k g v b → v < size w k → ((s : List ℕ) → held v g s ≡ h s)
      → Result t t' (k + 1) h o → o ≡ None → Stopped w t' k g
  fill_stop t t' v b h o f lt e r is =
      F.fill_stop lawful w k g ok hs t t' v (arms v b) h f.filled (omega (arith, at_sizes w k hk)) e (subst (λ (q : Option Arm). Result t t' (k + 1) h q) is r)

  pub stop_result : (t : List ℕ) → Stopped w t k g → Result w t k g None
  stop_result t s = F.stop_result lawful w k g ok hs t s

  full : (t : List ℕ) (b : List Arm) → Filling w t k g (size w k) b → H.Filled layout w t k g (get_or (sizes w) k 0) (arms (size w k) b)
  full t b f = rw (at_sizes w k hk) f.filled

  same_size : (t : List ℕ) (b : List Arm) → Filling w t k g (size w k) b → size t k ≡ size w k
  same_size t b f = kept_size w t f.filled.grown.kept ok.laid.laid.few k hk

  -- what branch v adds is what g has there, where the other features are 0
  fill_adds : (t : List ℕ) (b : List Arm) → Filling w t k g (size w k) b → (v : ℕ) → v < size w k → int (adding b v) ≡ (g (v ∷ zeros (drop (suc k) (sizes w)))).off
  unfolding each_to
  fill_adds t b f v h =
      let ns : List ℕ = drop (suc k) (sizes w) in
      let n : ℕ = get_or (sizes w) k 0 in
      let hn : v < n = omega (arith, at_sizes w k hk) in
      let q : Rights (sizes w) (suc k) ns (parts 0 n g) (nodes w) (each_to layout w k g n) =
      each_right (sizes w) (suc k) ns (build (suc k) ns) (build_right (sizes w) (suc k) ns refl) (parts 0 n g) (nodes w) ok.wf in
      let m : Mean (each_to layout w k g n).1 (suc k) ns (get_or (each_to layout w k g n).0 v blank) (held v g) =
      subst (λ (u : ℕ). Mean (each_to layout w k g n).1 (suc k) ns (get_or (each_to layout w k g n).0 v blank) (held u g)) (zero-add v)
      (means_at (each_to layout w k g n).1 (suc k) ns (each_to layout w k g n).0 0 n g q.means v hn) in
      let e : get_or (each_to layout w k g n).0 v blank ≡ branch (tos b v) (adding b v) =
      ap (λ (bs : List (Branch costs)). get_or bs v blank) (sym (full t b f).says) ∙ get_or_tab (λ u. branch (tos b u) (adding b u)) (size w k) v blank h in
      ap (λ (b : Branch costs). b.adds) (sym e)
      ∙ sym (value_zeros (sizes w) (each_to layout w k g n).1 q.wfs (suc k) ns (get_or (each_to layout w k g n).0 v blank) m.ok)
      ∙ offs (m.says (zeros ns) (zeros_valid ns (pos_drop (suc k) (sizes w) (lawful.positive w ok.laid))))

  -- so of a cost whose amounts lie close together no two added integers lie too far apart
  fill_near : (t : List ℕ) (b : List Arm) → Filling w t k g (size w k) b → Spread add_most (drop k (sizes w)) g → (v : ℕ) → v < size w k → Fit add_most (int (adding b v) -ℤ int (adding b 0))
  fill_near t b f sp v h =
      let ns : List ℕ = drop (suc k) (sizes w) in
      let z : Valid ns (zeros ns) = zeros_valid ns (pos_drop (suc k) (sizes w) (lawful.positive w ok.laid)) in
      let l : drop k (sizes w) ≡ size w k ∷ ns = drop-cons (sizes w) k 0 hs ∙ ap (λ (n : ℕ). n ∷ ns) (at_sizes w k hk) in
      let r : Spread add_most (size w k ∷ ns) g = subst (λ (ms : List ℕ). Spread add_most ms g) l sp in
      subst (Fit add_most) (sym (λ i. fill_adds t b f v h i -ℤ fill_adds t b f 0 (omega arith) i)) (r.apart (v ∷ zeros ns) (0 ∷ zeros ns) (h, z) (omega arith, z))

  -- the nodes stay narrow while a cost of this spread is filled in
  pub filling_narrow : (t : List ℕ) (v : ℕ) (b : List Arm) → Filling w t k g v b → v ≤ size w k → Spread add_most (drop k (sizes w)) g → Narrow add_most (sizes w) (nodes w)
      → Narrow add_most (sizes t) (nodes t)
  unfolding each_to
  filling_narrow t v b f l sp nr =
      let n : ℕ = get_or (sizes w) k 0 in
      let ns : List ℕ = drop (suc k) (sizes w) in
      let c : drop k (sizes w) ≡ n ∷ ns = drop-cons (sizes w) k 0 hs in
      let e : nodes t ≡ (each_to layout w k g v).1 = F.grown_nodes lawful w t (each_to layout w k g v).1 f.filled.grown f.filled.fits in
      let s : sizes t ≡ sizes w = lawful.kept_sizes w t ok.laid f.filled.grown.kept in
      rw (s, e) (branches_narrow (sizes w) k n ns c g (subst (λ (ms : List ℕ). Spread add_most ms g) c sp) v (omega (arith, at_sizes w k hk)) (nodes w) ok.wf nr)

  -- the sums below the new node lie no further from 0 than the cost's amounts lie apart
  fill_sums : (t : List ℕ) (b : List Arm) → Filling w t k g (size w k) b → Spread add_most (drop k (sizes w)) g → (up : Bool) → Passed (side_of up) (nodes t) (length (nodes t)) (kept up t) →
      (v : ℕ) → v < size w k → Fit add_most (along (kept up t) (branch (tos b v) (adding b v)) -ℤ int (adding b 0))
  unfolding each_to
  fill_sums t b f sp up q v h =
      let n : ℕ = get_or (sizes w) k 0 in
      let ns : List ℕ = drop (suc k) (sizes w) in
      let en : size w k ≡ n = sym (at_sizes w k hk) in
      let c : drop k (sizes w) ≡ n ∷ ns = drop-cons (sizes w) k 0 hs in
      let e : nodes t ≡ (each_to layout w k g n).1 = F.grown_nodes lawful w t (each_to layout w k g n).1 (full t b f).grown (full t b f).fits in
      let q' : arms (size w k) b ≡ (each_to layout w k g n).0 = (full t b f).says in
      let r : Rights (sizes w) (suc k) ns (parts 0 n g) (nodes w) (each_to layout w k g n) =
      each_right (sizes w) (suc k) ns (build (suc k) ns) (build_right (sizes w) (suc k) ns refl) (parts 0 n g) (nodes w) ok.wf in
      let y : Fit add_most (along (kept up t) (get_or (arms (size w k) b) v blank) -ℤ base (arms (size w k) b)) =
      arms_near (way up) (sizes w) k n ns c (subst Pos c (pos_drop k (sizes w) (lawful.positive w ok.laid))) (nodes t) (rw e r.wfs) (kept up t) q g
      (arms (size w k) b) (rw (e, q') r.means) (subst (λ (ms : List ℕ). Spread add_most ms g) c sp) v (omega arith) in
      subst (Fit add_most)
      (ap₂ (λ (p q : Branch costs). along (kept up t) p -ℤ q.adds) (get_or_tab (λ u. branch (tos b u) (adding b u)) (size w k) v blank h)
      (get_or_tab (λ u. branch (tos b u) (adding b u)) (size w k) 0 blank (omega arith))) y

  -- `make` may be asked
  pub fill_armed : (t : List ℕ) (b : List Arm) → Filling w t k g (size w k) b → Spread add_most (drop k (sizes w)) g → Narrow add_most (sizes w) (nodes w) → Armed t k b
  fill_armed t b f sp nr =
      let s : size t k ≡ size w k = same_size t b f in
      let paired = holds_passed t f.filled.grown.well (filling_narrow t (size w k) b f (le_refl _) sp nr) in
      record {
        each = λ v h.
            subst (Ok (nodes t) (suc k)) (get_or_tab (λ u. branch (tos b u) (adding b u)) (size w k) v blank (omega arith))
            (F.fill_ok lawful w k g ok hs t (arms (size w k) b) (full t b f) v (omega (arith, at_sizes w k hk)));
        pad = λ v l h. f.pad v (omega arith) h;
        near = λ v h. fill_near t b f sp v (omega arith);
        sums = λ up v h. fill_sums t b f sp up (paired up) v (omega arith);
        paired = paired;
      }

  -- and its answer is the result
  pub fill_make : (t t' : List ℕ) (b : List Arm) (o : Option Arm) → Filling w t k g (size w k) b → Makes t t' k b o → Result w t' k g o
  fill_make t t' b o f m =
      let s : size t k ≡ size w k = same_size t b f in
      let y : Gives t t' (make k (arms (size w k) b) (nodes t)) o = rw s at m in
      F.fill_make lawful w k g ok hs t t' (arms (size w k) b) (told o) (full t b f) y

  -- meanwhile the nodes of w are as they were
  pub filling_ext : (t : List ℕ) (v : ℕ) (b : List Arm) → Filling w t k g v b → Ext (nodes w) (nodes t)
  filling_ext t v b f = F.filled_ext lawful w t k g v (arms v b) ok f.filled

-- ---- answers
pub gives_is : {w t : List ℕ} {r : Built costs} {o : Option Arm} {b : Arm} → o ≡ Some b → Gives w t r o → Gives w t r (Some b)
gives_is {w} {t} {r} e g = subst (λ (y : Option Arm). Gives w t r y) e g

pub gives_none : {w t : List ℕ} {r : Built costs} {o : Option Arm} → o ≡ None → Gives w t r o → Gives w t r None
gives_none {w} {t} {r} e g = subst (λ (y : Option Arm). Gives w t r y) e g

-- the nodes of w are still the first after any answer
pub result_ext : (w t : List ℕ) (k : ℕ) (g : Cost) (o : Option Arm) → Holds w → Result w t k g o → Ext (nodes w) (nodes t)
result_ext w t k g o ok r = F.grown_ext lawful w t (built w k g).1 ok r.grown (F.built_ext lawful w k g)

-- ---- results remembered
-- what a result tells may be remembered
pub result_mean : (w t : List ℕ) (k : ℕ) (g : Cost) (b : Arm) → Holds w → Result w t k g (Some b) → Mean (nodes t) k (drop k (sizes w)) (branch b.to b.adds) g
result_mean w t k g b ok r = F.result_mean lawful w t k g (branch b.to b.adds) ok r

-- and what is remembered is the result
pub mean_result : (w : List ℕ) (k : ℕ) (g : Cost) (b : Arm) → Holds w → Mean (nodes w) k (drop k (sizes w)) (branch b.to b.adds) g → Result w w k g (Some b)
mean_result w k g b ok m = F.mean_result lawful w k g (branch b.to b.adds) ok m

-- what a function that fills the branches answered
pub filled : (w t : List ℕ) (k : ℕ) (g : Cost) (r : Option (List Arm)) (b : List Arm) → r ≡ Some b → Fills w t k g r → Filling w t k g (size w k) b
filled w t k g r b e f = subst (λ (o : Option (List Arm)). Fills w t k g o) e f

pub not_filled : (w t : List ℕ) (k : ℕ) (g : Cost) (r : Option (List Arm)) → r ≡ None → Fills w t k g r → Stopped w t k g
not_filled w t k g r e f = subst (λ (o : Option (List Arm)). Fills w t k g o) e f
