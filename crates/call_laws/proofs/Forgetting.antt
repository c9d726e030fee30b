-- FORGETTING OVER CALLS on one rule table: what is left, two features in either order, and 0/1 rules as before. Assumes nothing.
use mathlib.Core.Path.{◌≡◌, refl, sym, ap, ap₂, subst, ◌∙◌}
use mathlib.Core.List.{List, [], ◌∷◌}
use Prim.Native.Nat.{ℕ, ◌<◌}
use native.Mathlib.Decide.{ℕ_discrete}
use native.Mathlib.Omega.{arith}
use lib.ListN.{get_or, set}
use lib.Seq.{set_comm}
use Rattle.theory.specs.Settings.{Valid}
use Rattle.theory.specs.Functions.{Agree}
use Rattle.theory.specs.Rules.{Rule, says}
use Rattle.theory.proofs.Ranges.{features_decided}
use Rattle.theory.proofs.Rules.{numbers}
use Rattle.settings.specs.Refusals.{Ends}
use Rattle.settings.specs.declared.refusals.Refusal.TheVariants.{Damaged, BadPlace, BadArgument}
use Rattle.settings.specs.Refusals.{Outcome}
use Rattle.settings.specs.Refusals.{Taken}
use Rattle.table_words.proofs.Tab.{tab_ext, occurs_tab}
use Rattle.rule_operators.specs.Forgetting.{Left}
use Rattle.rule_operators.proofs.Forgetting.{forgotten_left, forgotten_largest, forgotten_swap}
use Rattle.promises.specs.Tab.{tab}
use Rattle.promises.specs.Words.{features, sizes}
use Rattle.promises.specs.RuleWords.{rule_root as root, rule_of, rules_of}
use Rattle.promises.specs.RuleSound.{RuleSound}
use Rattle.promises.specs.Operators.{forgotten_of}
use Rattle.promises.specs.State.{on}
use Rattle.promises.specs.Deed.{refusals, Meets}
use Rattle.promises.specs.Table.{state_of}
use Rattle.promises.specs.RuleDeeds.{looked, ruled, without, forget}
use Rattle.table_words.proofs.Words.{length_sizes, at_sizes}
use Rattle.rule_words.proofs.Reading.{at_rules}
use Rattle.rule_sound.proofs.Pictures.{sound_proper}
use Rattle.table_calls.proofs.Like.{keep, like_ends, clear, rest}
use Rattle.table_calls.proofs.Drawn.{made_like}
use Rattle.rule_calls.proofs.Answering.{agree_roots}
use Rattle.rule_calls.proofs.Edge.{drawn}
use Rattle.demands.specs.Agrees.{Matches}
use Rattle.demands.specs.RuleCalls.{forget_call}
use Rattle.demands.proofs.Firm.{sure}
use Rattle.demands.proofs.Matching.{matches_refl, room_like}
use Rattle.demands.proofs.RuleLaws.{valid_set, frame, lawful}
use Rattle.demands.proofs.Demands.{meets_one}
use Rattle.call_laws.specs.Standing.{Apart, Still, InTurn}
use Rattle.call_laws.specs.Forgetting.{over, largest, forget_largest, YesNo}
use Rattle.call_laws.proofs.Among.{other, at0, at1, at2, at3, at4}
use Rattle.call_laws.proofs.Standing.{there, written_agrees, next_stands}

-- ---- WHAT IS LEFT: a taken call gives each setting what the customer's sentences say of the numbers over the values of the feature
module _ {p q f : ℕ} {w v : List ℕ} (c : Meets (forget p q f) w v Taken) where
  place : p < 32
  place = there (clear (rest c.ends)) 0 (omega arith)

  from : q < 32
  from = there (clear (rest c.ends)) 1 (omega arith)

  feature : f < features w
  feature = let n = clear (rest (rest c.ends)) in omega (arith, n, length_sizes w)

  pub forget_leaves : (s : List ℕ) → Valid (sizes v) s → Left (over w q f s) (rule_of v p s).end
  forget_leaves s x =
      subst (Left (over w q f s)) (sym (numbers (written_agrees looked drawn refl c refl place (λ t y. said t) s x))) (forgotten_left (over w q f s))
    where
      said : (t : List ℕ) → without f (get_or (sizes w) f 0) (on (state_of ruled w) q) t ≡ says (forgotten_of (over w q f t))
      said t = ap₂ (λ (n : ℕ) (g : Rule). without f n g t) (at_sizes w f feature) (at_rules w q from)

  -- and of a place that agrees with the rule g, the rule g without the feature
  forget_gives : {g : Rule} → Agree (sizes w) (rule_of w q) g → Agree (sizes v) (rule_of v p) (without f (get_or (sizes w) f 0) g)
  forget_gives {g} a = written_agrees looked drawn refl c refl place (λ s x.
      ap says (ap forgotten_of
      (tab_ext (λ u. (on (state_of ruled w) q (set s f u)).end) (λ u. (g (set s f u)).end) (get_or (sizes w) f 0) (λ u h.
      numbers (ap (λ (k : Rule). k (set s f u)) (at_rules w q from) ∙ a (set s f u) (valid_set (sizes w) s f u x h))))))

-- ---- TWO FEATURES IN EITHER ORDER
-- the rule g without feature f, over the list S
abbrev gone : List ℕ → ℕ → Rule → Rule
gone S f g = without f (get_or S f 0) g

gone_swap : (S : List ℕ) (f e : ℕ) (g : Rule) (s : List ℕ) → gone S f (gone S e g) s ≡ gone S e (gone S f g) s
gone_swap S f e g s = go (ℕ_discrete f e)
  where
    go : Dec (f ≡ e) → gone S f (gone S e g) s ≡ gone S e (gone S f g) s
    go (yes i) = ap₂ (λ (x y : ℕ). gone S x (gone S y g) s) i (sym i)
    go (no n) = ap says
        (forgotten_swap (λ u v. (g (set (set s f u) e v)).end) (get_or S f 0) (get_or S e 0)
        ∙ ap forgotten_of (tab_ext _ _ (get_or S e 0) (λ v h. ap forgotten_of (tab_ext _ _ (get_or S f 0) (λ u k. ap (λ (t : List ℕ). (g t).end) (set_comm s f e u v n))))))

-- place p of the words w, a table over the list S, holds the rule g
record Holds (S w : List ℕ) (p : ℕ) (g : Rule) : Type 0 where
  list : sizes w ≡ S
  gives : Agree S (rule_of w p) g

stays : {S w v : List ℕ} {p : ℕ} {g : Rule} → Holds S w p g → Still rule_of RuleSound p w v → Holds S v p g
stays h k = record { list = k.list ∙ h.list; gives = λ s x. k.same s (subst (λ (R : List ℕ). Valid R s) (sym h.list) x) ∙ h.gives s x }

forgets : {S w v : List ℕ} {p q f : ℕ} {g : Rule} → Holds S w q g → Meets (forget p q f) w v Taken → Holds S v p (gone S f g)
forgets {S} {f = f} {g = g} h c =
    let l = (c.leaves refl).list ∙ h.list in
    record {
      list = l;
      gives = λ s x.
          forget_gives c (λ t y. h.gives t (subst (λ (R : List ℕ). Valid R t) h.list y)) s (subst (λ (R : List ℕ). Valid R s) (sym l) x)
          ∙ ap (λ (R : List ℕ). gone R f g s) h.list;
    }

-- feature f and then e into place p by place m, feature e and then f into place q by place n: one root
module _ {a m p n q f e : ℕ} where
  pub forget_either_order : {w v : List ℕ} → Apart (m ∷ p ∷ n ∷ q ∷ []) (a ∷ []) → (n ≡ p → ⊥) → (q ≡ p → ⊥) →
      InTurn rule_of RuleSound (a ∷ m ∷ p ∷ n ∷ q ∷ []) (Meets (forget m a f) ∷ Meets (forget p m e) ∷ Meets (forget n a e) ∷ Meets (forget q n f) ∷ []) w v → root v p ≡ root v q
  forget_either_order {w} {v} d np qp (u₁, t₁, (u₂, t₂, (u₃, t₃, (u₄, t₄, z)))) =
      let ha : a < 32 = from t₁.taken in
      let hp = place t₂.taken in
      let hq = place t₄.taken in
      let A₀ : Holds (sizes w) w a (rule_of w a) = record { list = refl; gives = λ s x. refl } in
      let A₁ = stays A₀ (next_stands looked drawn t₁ refl t₁.taken refl at0 ha (other d at0 at0)) in
      let A₂ = stays A₁ (next_stands looked drawn t₂ refl t₂.taken refl at0 ha (other d at0 at1)) in
      let M₁ = forgets (stays A₀ (t₁.still a at0)) t₁.taken in
      let P₂ = forgets (stays M₁ (t₂.still m at1)) t₂.taken in
      let P₃ = stays P₂ (next_stands looked drawn t₃ refl t₃.taken refl at2 hp (λ i. np (sym i))) in
      let P₄ = stays P₃ (next_stands looked drawn t₄ refl t₄.taken refl at2 hp (λ i. qp (sym i))) in
      let N₃ = forgets (stays A₂ (t₃.still a at0)) t₃.taken in
      let Q₄ = forgets (stays N₃ (t₄.still n at3)) t₄.taken in
      let P = stays P₄ (z p at2) in
      let Q = stays Q₄ (z q at4) in
      agree_roots (z p at2).sound p q hp hq (λ s x.
      let y = subst (λ (R : List ℕ). Valid R s) P.list x in
      P.gives s y ∙ gone_swap (sizes w) e f (rule_of w a) s ∙ sym (Q.gives s y))

-- ---- 0/1 RULES: a call that keeps the largest number and one that keeps what is left end alike and leave the same words
yes_no_same : (w : List ℕ) (q f : ℕ) → q < 32 → YesNo w q → Agree (sizes w) (largest f (get_or (sizes w) f 0) (on (state_of ruled w) q)) (without f (get_or (sizes w) f 0) (on (state_of ruled w) q))
yes_no_same w q f hq y s x = ap says (sym (forgotten_largest (tab (λ v. (on (state_of ruled w) q (set s f v)).end) (get_or (sizes w) f 0)) (λ n m.
    let r = occurs_tab (λ v. (on (state_of ruled w) q (set s f v)).end) (get_or (sizes w) f 0) m in
    omega (arith, r.2, ap (λ (g : Rule). (g (set s f r.0)).end) (at_rules w q hq), y.small (set s f r.0) (valid_set (sizes w) s f r.0 x r.1)))))

as_left : {p q f : ℕ} {w a : List ℕ} {o : Outcome} → YesNo w q → Meets (forget_largest p q f) w a o → Meets (forget p q f) w a o
as_left {p} {q} {f} {w} {a} {o} y m =
    record {
      ends = like_ends o (keep Damaged (λ ns. keep BadPlace (λ np. keep BadArgument (λ na. room_like (matched ns) (λ s x. sym (yes_no_same w q f (there np 1 (omega arith)) y s x)))))) m.ends;
      leaves = λ e. made_like looked drawn p _ _ (yes_no_same w q f (there (clear (rest (subst (Ends (refusals (forget_largest p q f) w)) e m.ends))) 1 (omega arith)) y) (m.leaves e);
      gives = λ e. tt;
      kept = m.kept;
      refused = m.refused;
    }
  where
    matched : ((RuleSound w → ⊥) → ⊥) → Matches (sizes w) (rules_of w) (rules_of w)
    matched n = matches_refl (sure (features_decided (sizes w)) (λ k. n (λ s. k (sound_proper s).list)))

pub yes_no_as_before : {p q f : ℕ} {w a b : List ℕ} {o r : Outcome} → YesNo w q → Meets (forget_largest p q f) w a o → Meets (forget p q f) w b r → (o ≡ r) × (a ≡ b)
yes_no_as_before {p} {q} {f} y before now = meets_one frame (lawful (forget_call p q f)) (as_left y before) now
