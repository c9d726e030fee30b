-- The laws of `find` and `make`: those of every kind, for packed bodies whose branch 0 adds nothing. Assumes nothing.
use mathlib.Core.Path.{◌≡◌, sym, ap, ap₂, subst, ◌∙◌}
use mathlib.Core.Logic.{⊎_elim}
use mathlib.Core.Bool.{Bool, true, false}
use mathlib.Core.List.{List, [], ◌∷◌, ◌++◌, map}
use Rattle.std.specs.Prelude.{Some, None}
use mathlib.Core.Option.{Option as Maybe, none, some}
use Prim.Native.Nat.{ℕ, zero, suc, ◌≤◌, ◌<◌}
use native.Mathlib.Omega.{arith}
use lib.IntN.{ℤ, ◌+ℤ◌, ◌-ℤ◌, +ℤ_idr}
use lib.ListN.{length, get_or, length-map}
use lib.Seq.{ext_get_or}
use Rattle.theory.specs.Build.{Built, make}
use Rattle.theory.specs.Costs.{costs}
use Rattle.theory.specs.Deciding.{Alike}
use Rattle.theory.specs.Diagrams.{Branch, Target, blank, node, up}
use Rattle.theory.specs.WellFormed.{Ok}
use Rattle.theory.proofs.Lists.{get_or_map_in}
use Rattle.theory.proofs.Offsets.{Level}
use Rattle.theory_costs.specs.Extremes.{along, kept_at, own}
use Rattle.theory_costs.proofs.Extremes.{across_ext}
use Rattle.theory_costs.proofs.Integers.{ℕ-eq, sum_ℕ, minus_ℕ, minus_self}
use Rattle.theory_costs.proofs.Words.{int_one}
use Rattle.table_words.specs.Table.{branches}
use Rattle.table_words.specs.Holding as H
use Rattle.table_words.specs.Words.{listed}
use Rattle.table_words.proofs.Reading.{length_nodes}
use Rattle.table_words.proofs.Filling.{raised, gives_lift}
use Rattle.table_words.proofs.Tab.{split, length_tab, get_or_tab}
use Rattle.table_records.specs.Changes.{pair_of, Pushed, RecordIs, Finds as FindsRecord}
use Rattle.table_records.specs.Nodes.{Listed, node_of, Behind, Absent}
use Rattle.table_records.proofs.Making as M
use Rattle.cost_words.specs.Sides.{end_of, arm_sum, Bodied, Sides}
use Rattle.cost_words.specs.Table.{cost_table}
use Rattle.cost_words.specs.Words.{packed, pair_word, target_of, tos, adding}
use Rattle.cost_words.specs.declared.Arm.{Arm}
use Rattle.cost_words.specs.declared.sides.Span.{Span}
use Rattle.cost_words.proofs.Pairing.{new_pair}
use Rattle.cost_words.specs.declared.Target.{Target as CodeTarget}
use Rattle.cost_words.specs.declared.Target.TheVariants.{Node as NodeIs}
use Rattle.cost_words.proofs.Regular.{regular}
use Rattle.cost_words.proofs.Packing.{target_one, word_again, int_zero, packed_goes, packed_added}
use Rattle.cost_nodes.specs.Nodes.{layout, Holds, Levelled, AllSame, Finds, arms, Armed, Lowered, Makes}
use Rattle.cost_nodes.proofs.Reading.{lawful, ok_small}
use Rattle.promises.specs.Integers.{Fit, int}
use Rattle.promises.specs.Range.{add_most}
use Rattle.promises.specs.CostSound.{across, bare, kept, side_of}
use Rattle.promises.specs.Words.{capacity, features, size, sizes, count}
use Rattle.promises.specs.CostWords.{target, cost_branch as branch, goes, added, cost_node_list as nodes}

-- the word 2,147,483,648 adds nothing
bare_branch : (x : ℕ) (t : Target costs) → target x ≡ t → bare t ≡ branch x 2147483648
bare_branch x t e = λ j. record { adds = sym int_zero j; to = sym e j }

-- ---- find
module _ (w : List ℕ) (k : ℕ) (l : List ℕ) (ok : Holds w) (hk : k < features w) (lv : Levelled w k l) where
  abbrev bs : List (Branch costs)
  bs = branches cost_table (size w k) (listed l)

  pub many : (2 ≤ size w k) × (size w k ≤ 8)
  many = ok.laid.laid.large k hk

  level_bs : Level bs
  level_bs = ap (λ (b : Branch costs). b.adds) (M.at_bs regular w k l ok hk lv.fits 0 (omega (arith, many.0))) ∙ ap int lv.level ∙ int_zero

  -- the first target is small
  first_small : goes (listed l) 0 ≤ count w
  first_small = ok_small w (suc k) (goes (listed l) 0) (added (listed l) 0) (lv.fits.each 0 (omega (arith, many.0)))

  -- equal branches need no node
  pub found_same : (x : CodeTarget) → target_of x ≡ target (goes (listed l) 0) → AllSame (size w k) l → Finds w k l (Some x)
  found_same x e s = (
    M.found_same regular w k l ok hk lv.fits (λ v h. ap₂ branch (s.targets v h) (s.addeds v h))
        ∙ ap (λ (b : Branch costs). let t : Built costs = (b, nodes w) in t) (ap (branch (goes (listed l) 0)) lv.level ∙ sym (bare_branch (goes (listed l) 0) (target_of x) (sym e))),
    word_again x (goes (listed l) 0) e (omega (arith, first_small, ok.laid.laid.within, ok.laid.laid.most)),
  )

  not_alike : (AllSame (size w k) l → ⊥) → ¬ Alike blank bs
  not_alike n a =
      n (record {
        targets = λ v h. target_one (goes (listed l) v) (goes (listed l) 0) (ap (λ (b : Branch costs). b.to) (M.alike_arms regular w k l ok hk lv.fits a v h));
        addeds = λ v h. int_one (added (listed l) v) (listed l 4) (ap (λ (b : Branch costs). b.adds) (M.alike_arms regular w k l ok hk lv.fits a v h));
      })

  -- an equal node is there
  pub found_node : (i : ℕ) → i < count w → (AllSame (size w k) l → ⊥) → RecordIs w i k l → Finds w k l (Some (NodeIs i))
  found_node i h n q = (M.found_node regular w k l ok hk lv.fits level_bs i h (not_alike n) q, omega (arith, h, ok.laid.laid.within, ok.laid.laid.most))

  -- neither: the branch must be made
  pub found_none : (AllSame (size w k) l → ⊥) → FindsRecord w k l None → Absent cost_table w k l
  found_none n f = M.found_none regular w k l ok hk lv.fits (not_alike n) f

-- ---- make
pub small_target : (w : List ℕ) (k : ℕ) (b : List Arm) → Holds w → Armed w k b → (v : ℕ) → v < 8 → tos b v < 65536
small_target w k b ok ar v h = ⊎_elim
    (λ l. omega (arith, ok_small w (suc k) (tos b v) (adding b v) (ar.each v l), ok.laid.laid.within, ok.laid.laid.most))
    (λ l. omega (arith, ar.pad v l h))
    (split v (size w k))

back : (z y : ℤ) → z +ℤ (y -ℤ z) ≡ y
back z y = ℕ-eq (z +ℤ (y -ℤ z)) y (omega (arith, sum_ℕ z (y -ℤ z), minus_ℕ y z))

turn : (y z u : ℤ) → (y -ℤ z) +ℤ u ≡ (y +ℤ u) -ℤ z
turn y z u = ℕ-eq ((y -ℤ z) +ℤ u) ((y +ℤ u) -ℤ z) (omega (arith, minus_ℕ y z, sum_ℕ (y -ℤ z) u, sum_ℕ y u, minus_ℕ (y +ℤ u) z))

-- the body l has the targets of b, and what each adds more than the first
module _ (w : List ℕ) (k : ℕ) (b r : List Arm) (l : List ℕ) (ok : Holds w) (hk : k < features w) (ar : Armed w k b) (lo : Lowered (size w k) b r)
    (e : (v : ℕ) → v < 12 → get_or l v 0 ≡ packed (tos r) (adding r) v) where
  abbrev z : ℤ
  z = int (adding b 0)

  abbrev m : ℕ
  m = size w k

  size_is : (2 ≤ m) × (m ≤ 8)
  size_is = ok.laid.laid.large k hk

  small : (v : ℕ) → v < 8 → tos r v < 65536
  small v h = omega (arith, lo.targets v h, small_target w k b ok ar v h)

  arm_is : (v : ℕ) → v < 8 → cost_table.arm (listed l) v ≡ branch (tos b v) (adding r v)
  arm_is v h =
      regular.reads (listed l) (packed (tos r) (adding r)) v h e
      ∙ ap₂ branch (packed_goes (tos r) (adding r) small v h ∙ lo.targets v h) (packed_added (tos r) (adding r) v)

  fits : Listed cost_table w k l
  fits =
      record {
        each = λ v h. subst (Ok (nodes w) (suc k)) (sym (arm_is v (omega (arith, size_is)))) (ar.each v h);
        pad = regular.padded m (packed (tos r) (adding r)) (listed l) (λ v h. sym (e v h))
            (record {
              targets = λ v b h. packed_goes (tos r) (adding r) small v h ∙ lo.targets v h ∙ ar.pad v b h;
              addeds = λ v b h. packed_added (tos r) (adding r) v ∙ lo.pad v b h;
            });
      }

  pub levelled : Levelled w k l
  levelled =
      let h : 0 < m = omega (arith, size_is) in
      record {
        fits = fits;
        level = e 4 (omega arith) ∙ packed_added (tos r) (adding r) 0 ∙ int_one (adding r 0) 2147483648 (lo.each 0 h ∙ minus_self z ∙ sym int_zero);
      }

  -- with the first's added integer put back the branches are those asked for
  arms_up : map (up z) (branches cost_table m (listed l)) ≡ arms m b
  arms_up =
      let n : length (branches cost_table m (listed l)) ≡ m = length_tab (cost_table.arm (listed l)) m in
      let n' : length (map (up z) (branches cost_table m (listed l))) ≡ m = length-map (branches cost_table m (listed l)) (up z) ∙ n in
      ext_get_or blank (map (up z) (branches cost_table m (listed l))) (arms m b) (n' ∙ sym (length_tab (λ v. branch (tos b v) (adding b v)) m))
      (λ v h.
      let hm : v < m = omega arith in
      get_or_map_in (up z) blank blank (branches cost_table m (listed l)) v (omega arith)
      ∙ ap (up z) (get_or_tab (cost_table.arm (listed l)) m v blank hm ∙ arm_is v (omega (arith, size_is)))
      ∙ (λ i. record { adds = (ap (λ (y : ℤ). z +ℤ y) (lo.each v hm) ∙ back z (int (adding b v))) i; to = (branch (tos b v) 0).to })
      ∙ sym (get_or_tab (λ u. branch (tos b u) (adding b u)) m v blank hm))

  lifted : (w' : List ℕ) (o : Maybe (Branch costs)) → H.Gives layout w w' (make k (branches cost_table m (listed l)) (nodes w)) o → H.Gives layout w w' (make k (arms m b) (nodes w)) (raised z o)
  lifted w' o g =
      subst (λ (cs : List (Branch costs)). H.Gives layout w w' (make k cs (nodes w)) (raised z o)) arms_up
      (gives_lift lawful w w' k z (branches cost_table m (listed l)) o ok (omega (arith, length_tab (cost_table.arm (listed l)) m, size_is)) g)

  -- the answer that goes to the word y
  raised_is : (y : ℕ) → up z (branch y 2147483648) ≡ branch y (adding b 0)
  raised_is y = λ i. record { adds = (ap (λ (c : ℤ). z +ℤ c) int_zero ∙ +ℤ_idr z) i; to = (branch y 0).to }

  answered : (w' : List ℕ) (y : ℕ) → H.Gives layout w w' (make k (branches cost_table m (listed l)) (nodes w)) (some (branch y 2147483648)) → Makes w w' k b (Some (record { to = y; adds = adding b 0 }))
  answered w' y g =
      subst (λ (c : Branch costs). H.Gives layout w w' (make k (arms m b) (nodes w)) (some c)) (raised_is y) (lifted w' (some (branch y 2147483648)) g)

  -- ---- the pair of the new node
  -- the sum along branch v: that of the branch asked for, less what the first adds
  sum_is : (up : Bool) (v : ℕ) → v < m → arm_sum up w l v ≡ along (kept up w) (branch (tos b v) (adding b v)) -ℤ z
  sum_is up v h =
      ap (along (kept up w)) (arm_is v (omega (arith, size_is)))
      ∙ ap (λ (c : ℤ). c +ℤ kept_at (kept up w) (branch (tos b v) 0).to) (lo.each v h)
      ∙ turn (int (adding b v)) z (kept_at (kept up w) (branch (tos b v) 0).to)

  -- the sums along the first branches may be asked for, ..
  pub bodied : (n : ℕ) → 1 ≤ n → n ≤ m → Bodied w l n
  bodied n h b =
      record {
        some = h;
        most = omega (arith, size_is);
        near = λ v hv.
            let y : goes (listed l) v ≤ count w = ok_small w (suc k) (goes (listed l) v) (added (listed l) v) (fits.each v (omega arith)) in
            record { room = omega (arith, ok.laid.laid.room, ok.laid.laid.within); most = omega (arith, ok.laid.laid.most, ok.laid.laid.within) };
      }

  -- .. none is lost, ..
  pub not_lost : (n : ℕ) → n ≡ m → Sides w l n None → ⊥
  not_lost n en s = s (λ up v h. let hm : v < m = omega arith in subst (Fit add_most) (sym (sum_is up v hm)) (ar.sums up v hm))

  -- .. and the furthest are the new node's own
  own_is : (up : Bool) → across (side_of up) (arm_sum up w l) m ≡ own (side_of up) (kept up w) (node_of cost_table w k l)
  unfolding own
  own_is up =
      across_ext (side_of up) (arm_sum up w l) (λ v. along (kept up w) (get_or (branches cost_table m (listed l)) v blank)) m
      (λ v h. ap (along (kept up w)) (sym (get_or_tab (cost_table.arm (listed l)) m v blank h)))
      ∙ ap (across (side_of up) (λ v. along (kept up w) (get_or (branches cost_table m (listed l)) v blank))) (sym (length_tab (cost_table.arm (listed l)) m))

  -- so they are its spare words
  behind : (a : Span) → Absent cost_table w k l → ((up : Bool) → int (end_of up a.low a.high) ≡ across (side_of up) (arm_sum up w l) m) → Behind cost_table w k l a.low a.high
  behind a ab e = go
    where
      pair : (a.low ≡ pair_word (sizes w) (nodes w ++ (node_of cost_table w k l ∷ [])) (length (nodes w)) 0) × (a.high ≡ pair_word (sizes w) (nodes w ++ (node_of cost_table w k l ∷ [])) (length (nodes w)) 1)
      pair =
          new_pair (sizes w) (lawful.positive w ok.laid) (nodes w) (node_of cost_table w k l) (M.new_wf regular w k l ok hk fits (level_bs w k l ok hk levelled) ab)
          (λ up. kept up w) ar.paired a.low a.high (e false ∙ own_is false) (e true ∙ own_is true)

      go : (j : ℕ) → j < 2 → pair_of a.low a.high j ≡ pair_word (sizes w) (nodes w ++ (node_of cost_table w k l ∷ [])) (count w) j
      go zero h = pair.0 ∙ ap (λ (i : ℕ). pair_word (sizes w) (nodes w ++ (node_of cost_table w k l ∷ [])) i 0) (length_nodes cost_table w)
      go (suc zero) h = pair.1 ∙ ap (λ (i : ℕ). pair_word (sizes w) (nodes w ++ (node_of cost_table w k l ∷ [])) i 1) (length_nodes cost_table w)
      go (suc (suc j)) h = absurd (omega arith)

  pub made_new : (w' : List ℕ) (y i n : ℕ) (a : Span) → Absent cost_table w k l → count w < capacity w → target y ≡ node i → i ≡ count w → n ≡ m
      → ((up : Bool) → int (end_of up a.low a.high) ≡ across (side_of up) (arm_sum up w l) n) → Pushed w w' k l a.low a.high
      → Makes w w' k b (Some (record { to = y; adds = adding b 0 }))
  made_new w' y i n a ab less e ei en s p =
      answered w' y
      (subst (λ (b : Branch costs). H.Gives layout w w' (make k (branches cost_table m (listed l)) (nodes w)) (some b)) (bare_branch y (node (count w)) (e ∙ ap node ei))
      (M.made_new regular w k l ok hk fits (level_bs w k l ok hk levelled) w' ab less
      (behind a ab (subst (λ (q : ℕ). (up : Bool) → int (end_of up a.low a.high) ≡ across (side_of up) (arm_sum up w l) q) en s)) p))

  pub made_none : Absent cost_table w k l → (count w < capacity w → ⊥) → Makes w w k b None
  made_none ab full = lifted w none (M.made_none regular w k l ok hk fits (level_bs w k l ok hk levelled) ab full)

  pub made_there : (y : ℕ) (t : CodeTarget) → target y ≡ target_of t → make k (branches cost_table m (listed l)) (nodes w) ≡ (bare (target_of t), nodes w) → Makes w w k b (Some (record { to = y; adds = adding b 0 }))
  made_there y t e d =
      answered w y
      (M.made_there regular w k l ok hk fits (branch y 2147483648) (d ∙ ap (λ (b : Branch costs). let o : Built costs = (b, nodes w) in o) (bare_branch y (target_of t) e)))
