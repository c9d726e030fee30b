-- NO ROOM is exact, for every call. Assumes nothing.
use mathlib.Core.Path.{◌≡◌, refl, ap}
use mathlib.Core.Logic.{◌⊎◌, inl, inr, ⊎_elim}
use mathlib.Core.List.{List, [], ◌∷◌, ◌++◌}
use Prim.Native.Nat.{ℕ, ◌<◌}
use native.Mathlib.Decide.{dec_lt}
use native.Mathlib.Omega.{arith}
use lib.ListN.{length, get_or}
use Rattle.theory.specs.Kind.{Kind}
use Rattle.theory.specs.Functions.{Amount, Fun, zero_fun}
use Rattle.theory.specs.Diagrams.{Branch, Node, blank, ending}
use Rattle.theory.specs.Build.{build, table}
use Rattle.theory.specs.Tally.{tally}
use Rattle.theory.specs.Rules.{rules, says}
use Rattle.theory.specs.Costs.{amount}
use Rattle.theory.specs.WellFormed.{Mean}
use Rattle.theory.proofs.Values.{value_ending}
use Rattle.theory.proofs.Canonical.{canonical}
use Rattle.theory.proofs.Ranges.{features_pos}
use Rattle.theory.proofs.Tables.{table_wf, table_mean, room}
use Rattle.settings.specs.Refusals.{Cases, ◌when◌else◌}
use Rattle.settings.specs.declared.refusals.Refusal.TheVariants.{Damaged, BadPlace, NoRoom}
use Rattle.settings.specs.Refusals.{Outcome}
use Rattle.table_words.specs.Table.{Table}
use Rattle.promises.specs.Words.{sizes}
use Rattle.promises.specs.Deed.{Answer, refusals, Meets}
use Rattle.promises.specs.State.{State, on, Outnumber}
use Rattle.promises.specs.Table.{Effect, keeps, puts, opens, Tabled, state_of}
use Rattle.promises.specs.TableDeeds.{constant, copy}
use Rattle.promises.specs.RuleDeeds.{looked, ruled}
use Rattle.promises.specs.CostDeeds.{cost_looked, costed}
use Rattle.promises.specs.BothDeeds.{both}
use Rattle.table_calls.proofs.Drawn.{Drawn, tabled, outnumbered}
use Rattle.rule_calls.proofs.Edge as RE
use Rattle.cost_calls.proofs.Edge as CE
use Rattle.demands.specs.Exact.{LowerNone, Exact}
use Rattle.demands.specs.Room.{RoomExact, RoomOfBoth}
use Rattle.demands.specs.RuleCalls as R
use Rattle.demands.specs.CostCalls as C
use Rattle.demands.specs.BothCalls as B
use Rattle.demands.proofs.Rows.{Row, applies_row, row_applies}
use Rattle.demands.proofs.Demands.{refused_exactly}
use Rattle.demands.proofs.Parts.{rules_kept, costs_kept, both_kept}

module _ {K : Kind} where
  -- what a table has to say of room: it names NO ROOM only where the rests outnumber, and names it wherever they do and nothing lower applies
  data RoomLaw (z : State K) (l : Cases) : Effect K → Type 0 where
    never_keeps : (Row 9 l → ⊥) → RoomLaw z l keeps
    never_opens : {y : State K} → (Row 9 l → ⊥) → RoomLaw z l (opens y)
    named : {p : ℕ} {g : Fun K} → (Row 9 l → Outnumber z g) → (Outnumber z g → LowerNone NoRoom l → Row 9 l) → RoomLaw z l (puts p g)

  room_exact : {z : State K} {l : Cases} {o : Outcome} (e : Effect K) → Exact l o → RoomLaw z l e → RoomExact e z l o
  room_exact {l = l} keeps x (never_keeps n) = λ q. n (applies_row l NoRoom ((x.refused NoRoom).0 q).0)
  room_exact {l = l} (opens y) x (never_opens n) = λ q. n (applies_row l NoRoom ((x.refused NoRoom).0 q).0)
  room_exact {z} {l} {o} (puts p g) x (named f b) = (
    (λ q. let h = (x.refused NoRoom).0 q in (f (applies_row l NoRoom h.0), h.1)),
    (λ h. (x.refused NoRoom).1 (row_applies l NoRoom (b h.0 h.1), h.1)),
  )

  -- a table whose last refusal is NO ROOM
  last_row : {z : State K} {l : Cases} {p : ℕ} {g : Fun K} → (Row 9 l → Outnumber z g ⊎ ⊥) → (Outnumber z g → Row 9 l) → RoomLaw z l (puts p g)
  last_row f b = named (λ r. ⊎_elim (λ x. x) (λ x. absurd x) (f r)) (λ x n. b x)

  -- a table with another condition for DAMAGED
  other_front : {z : State K} {P Q : Type 0} {l : Cases} {e : Effect K} → (P → Q) → RoomLaw z (Damaged when P else l) e → RoomLaw z (Damaged when Q else l) e
  other_front f (never_keeps n) = never_keeps n
  other_front f (never_opens n) = never_opens n
  other_front f (named a b) = named a (λ x n. b x (λ y h q. n y h (⊎_elim (λ p. inl (p.0, f p.1)) (λ p. inr p) q)))

-- what fits in every sound table is never refused for room
fits_law : {K : Kind} {z : State K} {Sound : Type 0} {l : Cases} {p : ℕ} {g : Fun K} → (Row 9 l → ⊥) → (LowerNone NoRoom (Damaged when (Sound → ⊥) else l) → Sound → Outnumber z g → ⊥) →
    RoomLaw z (Damaged when (Sound → ⊥) else l) (puts p g)
fits_law r f = named (λ q. absurd (r q)) (λ x n. absurd (n Damaged (omega arith) (inl (refl, λ s. f n s x))))

-- ---- a function that the table has a branch for needs no room
module _ {K : Kind} {D : Table K} {own : List ℕ → ℕ → Fun K} {Sound : List ℕ → Type 0} (looked : Answer (Amount K × ℕ)) (F : Drawn D own Sound) (w : List ℕ) where
  abbrev T : Tabled K
  T = tabled D Sound looked

  abbrev held : State K
  held = state_of T w

  abbrev nodes : List (Node K)
  nodes = (table (sizes w) (D.said w)).1

  there_fits : (b : Branch K) (g : Fun K) → Mean nodes 0 (sizes w) b g → Sound w → Outnumber held g → ⊥
  there_fits b g m s x =
      let q = F.proper w s in
      let pos = features_pos (sizes w) q.list in
      let e : length (build 0 (sizes w) g nodes).1 ≡ tally (sizes w) (D.said w ++ (g ∷ [])) = room (sizes w) pos (D.said w) g in
      let c : build 0 (sizes w) g nodes ≡ (b, nodes) = canonical (sizes w) 0 (sizes w) refl pos nodes (table_wf (sizes w) (D.said w)) b g m in
      let l : length (build 0 (sizes w) g nodes).1 ≡ length nodes = ap (λ (q : Branch K × List (Node K)). length q.1) c in
      omega (arith, outnumbered x, e, l, q.fits)

  pub constant_fits : (x : Amount K) → Sound w → Outnumber held (λ t. x) → ⊥
  constant_fits x = there_fits (ending x) (λ t. x) (record { ok = tt; says = λ t v. value_ending nodes 0 x t })

  constant_law : (p : ℕ) (x : Amount K) → RoomLaw held (refusals (constant T p x) w) (puts p (λ t. x))
  constant_law p x = fits_law (λ r. r) (λ n. constant_fits x)

  copy_law : (p q : ℕ) → RoomLaw held (refusals (copy T p q) w) (puts p (on held q))
  copy_law p q = fits_law (λ r. r) (λ n s. go n s (dec_lt q D.places))
    where
      go : LowerNone NoRoom (refusals (copy T p q) w) → Sound w → Dec (q < D.places) → Outnumber held (on held q) → ⊥
      go n s (yes h) = there_fits (get_or (table (sizes w) (D.said w)).0 q blank) (get_or (D.said w) q zero_fun) (table_mean (sizes w) (D.said w) q (omega (arith, h, F.length_said w))) s
      go n s (no h) = λ x. n BadPlace (omega arith) (inr (inl (refl, λ l. h (l.each 1 (omega arith)))))

-- ---- THE CALLS
module _ (w : List ℕ) where
  -- of the rule table
  rule_law : (c : R.Call) → RoomLaw (state_of ruled w) (refusals (R.deed c) w) ((R.deed c).writes (state_of ruled w))
  rule_law (R.open_call S cap n) = never_opens (λ r. r)
  rule_law (R.constant_call p x) = constant_law looked RE.drawn w p (says x)
  rule_law (R.copy_call p q) = copy_law looked RE.drawn w p q
  rule_law (R.literal_call p f x) = last_row (λ r. r) (λ x. inl x)
  rule_law (R.case_call p q l) = last_row (λ r. r) (λ x. inl x)
  rule_law (R.apply_call p x a b) = last_row (λ r. r) (λ x. inl x)
  rule_law (R.restrict_call p q f x) = last_row (λ r. r) (λ x. inl x)
  rule_law (R.forget_call p q f) = last_row (λ r. r) (λ x. inl x)
  rule_law (R.read_call p s) = last_row (λ r. r) (λ x. inl x)
  rule_law (R.look_up_call p s) = never_keeps (λ r. r)
  rule_law (R.same_call p q) = never_keeps (λ r. r)
  rule_law R.tally_call = never_keeps (λ r. r)
  rule_law (R.count_call p x) = never_keeps (λ r. r)
  rule_law (R.next_call p x s) = never_keeps (λ r. r)
  rule_law (R.write_call p out) = never_keeps (λ r. r)

  -- of the cost table
  cost_law : (c : C.Call) → RoomLaw (state_of costed w) (refusals (C.deed c) w) ((C.deed c).writes (state_of costed w))
  cost_law (C.open_call S cap n) = never_opens (λ r. r)
  cost_law (C.constant_call p x) = constant_law cost_looked CE.drawn w p (amount x)
  cost_law (C.copy_call p q) = copy_law cost_looked CE.drawn w p q
  cost_law (C.price_call p f l) = last_row (λ r. r) (λ x. inl x)
  cost_law (C.add_call p a b) = last_row (λ r. r) (λ x. inl x)
  cost_law (C.subtract_call p a b) = last_row (λ r. r) (λ x. inl x)
  cost_law (C.smaller_call p a b) = last_row (λ r. r) (λ x. inl x)
  cost_law (C.larger_call p a b) = last_row (λ r. r) (λ x. inl x)
  cost_law (C.scale_call p a c) = last_row (λ r. r) (λ x. inl x)
  cost_law (C.look_up_call p s) = never_keeps (λ r. r)
  cost_law (C.same_call p q) = never_keeps (λ r. r)
  cost_law C.tally_call = never_keeps (λ r. r)

-- THEOREM: every call of the rule table, of the cost table, and of one who holds both
pub rules_room : (c : R.Call) (w w' : List ℕ) (r : (R.deed c).Result) → Meets (R.deed c) w w' r
    → RoomExact ((R.deed c).writes (state_of ruled w)) (state_of ruled w) (refusals (R.deed c) w) ((R.deed c).ending r)
rules_room c w w' r a = room_exact ((R.deed c).writes (state_of ruled w)) (refused_exactly rules_kept c w w' r a) (rule_law w c)

pub costs_room : (c : C.Call) (w w' : List ℕ) (r : (C.deed c).Result) → Meets (C.deed c) w w' r
    → RoomExact ((C.deed c).writes (state_of costed w)) (state_of costed w) (refusals (C.deed c) w) ((C.deed c).ending r)
costs_room c w w' r a = room_exact ((C.deed c).writes (state_of costed w)) (refused_exactly costs_kept c w w' r a) (cost_law w c)

first_of_both : (z : both.Plain) (l : Cases) (o : Outcome) (e : Effect rules) → RoomExact e z.0 l o → RoomOfBoth e keeps z l o
first_of_both z l o keeps x = x
first_of_both z l o (puts p g) x = x
first_of_both z l o (opens y) x = x

pub both_room : (c : B.Call) (w w' : both.Words) (r : (B.deed c).Result) → Meets (B.deed c) w w' r →
    RoomOfBoth ((B.deed c).writes (both.says w)).0 ((B.deed c).writes (both.says w)).1 (both.says w) (refusals (B.deed c) w) ((B.deed c).ending r)
both_room (B.on_rules_call c) w w' r a =
    first_of_both (both.says w) (refusals (B.deed (B.on_rules_call c)) w) ((R.deed c).ending r) ((R.deed c).writes (state_of ruled w.0))
    (room_exact ((R.deed c).writes (state_of ruled w.0)) (refused_exactly both_kept (B.on_rules_call c) w w' r a) (other_front (λ n s. n s.0) (rule_law w.0 c)))
both_room (B.on_costs_call c) w w' r a = room_exact ((C.deed c).writes (state_of costed w.1)) (refused_exactly both_kept (B.on_costs_call c) w w' r a) (other_front (λ n s. n s.1) (cost_law w.1 c))
both_room (B.choose_call p q i j) w w' r a = room_exact ((B.deed (B.choose_call p q i j)).writes (both.says w)).1 (refused_exactly both_kept (B.choose_call p q i j) w w' r a) (last_row (λ x. x) (λ x. inl x))
both_room (B.less_call p i j) w w' r a = room_exact ((B.deed (B.less_call p i j)).writes (both.says w)).0 (refused_exactly both_kept (B.less_call p i j) w w' r a) (last_row (λ x. x) (λ x. inl x))
both_room (B.lowest_call i q) w w' r a = room_exact {z = (both.says w).1} keeps (refused_exactly both_kept (B.lowest_call i q) w w' r a) (never_keeps (λ x. x))
