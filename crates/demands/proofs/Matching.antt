-- Functions that match still match with one replaced, and have room alike; states that agree. Assumes nothing.
use mathlib.Core.Path.{◌≡◌, refl, sym, ap, subst, ◌∙◌}
use mathlib.Core.List.{List}
use Prim.Native.Nat.{ℕ, ◌<◌}
use native.Mathlib.Decide.{ℕ_discrete, dec_lt}
use native.Mathlib.Omega.{arith}
use lib.ListN.{length, get_or, set, length-set, get_or-eq_default}
use lib.Seq.{get_or-set_same, get_or-set_other}
use Rattle.theory.specs.Kind.{Kind}
use Rattle.theory.specs.Settings.{FeatureList, Valid}
use Rattle.theory.specs.Functions.{Agree, Fun, zero_fun}
use Rattle.theory.specs.Deciding.{list_discrete}
use Rattle.theory.specs.Comparing.{amount_discrete}
use Rattle.theory.proofs.Ranges.{features_pos, features_decided}
use Rattle.settings.specs.declared.refusals.Refusal.TheVariants.{NoRoom}
use Rattle.promises.specs.State.{State, state, put, Outnumber, room_cases}
use Rattle.table_calls.proofs.Like.{Like, alike, more}
use Rattle.table_calls.proofs.Drawn.{outnumber, outnumbered}
use Rattle.demands.specs.Agrees.{Matches, Agrees}
use Rattle.demands.proofs.Firm.{Stable, sure, equal}
use Rattle.demands.proofs.Tally.{tally_more}

module _ {K : Kind} where
  pub matches_refl : {S : List ℕ} {gs : List (Fun K)} → FeatureList S → Matches S gs gs
  matches_refl f = record { features = f; many = refl; each = λ p s v. refl }

  pub matches_sym : {S : List ℕ} {gs hs : List (Fun K)} → Matches S gs hs → Matches S hs gs
  matches_sym m = record { features = m.features; many = sym m.many; each = λ p s v. sym (m.each p s v) }

  matches_trans : {S : List ℕ} {fs gs hs : List (Fun K)} → Matches S fs gs → Matches S gs hs → Matches S fs hs
  matches_trans m n = record { features = m.features; many = m.many ∙ n.many; each = λ p s v. m.each p s v ∙ n.each p s v }

  -- past the places nothing is said
  pub matches_below : {S : List ℕ} (gs hs : List (Fun K)) → FeatureList S → length gs ≡ length hs → ((p : ℕ) → p < length gs → Agree S (get_or gs p zero_fun) (get_or hs p zero_fun)) → Matches S gs hs
  matches_below {S} gs hs f l a = record { features = f; many = l; each = λ p s v. go p s v (dec_lt p (length gs)) }
    where
      go : (p : ℕ) (s : List ℕ) → Valid S s → Dec (p < length gs) → get_or gs p zero_fun s ≡ get_or hs p zero_fun s
      go p s v (yes h) = a p h s v
      go p s v (no h) =
          ap (λ (g : Fun K). g s) (get_or-eq_default gs zero_fun (omega (arith, h)) ∙ sym (get_or-eq_default hs zero_fun (omega (arith, h, l))))

  -- one replaced
  matches_set : {S : List ℕ} {gs hs : List (Fun K)} {g h : Fun K} (p : ℕ) → Matches S gs hs → Agree S g h → Matches S (set gs p g) (set hs p h)
  matches_set {S} {gs} {hs} {g} {h} p m e =
      matches_below (set gs p g) (set hs p h) m.features (length-set gs p g ∙ m.many ∙ sym (length-set hs p h)) (λ q l s v. go q (omega (arith, l, length-set gs p g)) s v (ℕ_discrete q p))
    where
      go : (q : ℕ) → q < length gs → (s : List ℕ) → Valid S s → Dec (q ≡ p) → get_or (set gs p g) q zero_fun s ≡ get_or (set hs p h) q zero_fun s
      go q l s v (yes z) =
          ap (λ (i : ℕ). get_or (set gs p g) i zero_fun s) z ∙ ap (λ (f : Fun K). f s) (get_or-set_same gs p g zero_fun (omega (arith, l, z)))
          ∙ e s v
          ∙ sym (ap (λ (i : ℕ). get_or (set hs p h) i zero_fun s) z ∙ ap (λ (f : Fun K). f s) (get_or-set_same hs p h zero_fun (omega (arith, l, z, m.many))))
      go q l s v (no n) =
          ap (λ (f : Fun K). f s) (get_or-set_other gs p q g zero_fun n) ∙ m.each q s v ∙ sym (ap (λ (f : Fun K). f s) (get_or-set_other hs p q h zero_fun n))

  -- NO ROOM is the same of functions that match
  pub outnumber_like : {cap : ℕ} {S : List ℕ} {gs hs : List (Fun K)} {g h : Fun K} → Matches S gs hs → Agree S g h → Outnumber (state cap S gs) g → Outnumber (state cap S hs) h
  outnumber_like {cap} {S} {gs} {hs} {g} {h} m e x = outnumber (omega (arith, outnumbered x, tally_more S (features_pos S m.features) gs hs g h m.many (λ i l. m.each i) e))

  pub room_like : {cap : ℕ} {S : List ℕ} {gs hs : List (Fun K)} {g h : Fun K} → Matches S gs hs → Agree S g h → Like (room_cases g (state cap S gs)) (room_cases h (state cap S hs))
  room_like m e = more NoRoom (outnumber_like m e) (outnumber_like (matches_sym m) (λ s v. sym (e s v))) (λ n. alike)

  -- ---- states
  pub agrees_sym : {z y : State K} → Agrees z y → Agrees y z
  agrees_sym {z} {y} a =
      record {
        capacities = sym a.capacities;
        lists = sym a.lists;
        functions = subst (λ (S : List ℕ). Matches S y.places z.places) (sym a.lists) (matches_sym a.functions);
      }

  pub agrees_trans : {x y z : State K} → Agrees x y → Agrees y z → Agrees x z
  agrees_trans {x} {y} {z} a b =
      record {
        capacities = b.capacities ∙ a.capacities;
        lists = b.lists ∙ a.lists;
        functions = matches_trans a.functions (subst (λ (S : List ℕ). Matches S y.places z.places) a.lists b.functions);
      }

  -- a state that agrees is one of the same capacity and list
  pub as_framed : {z y : State K} → Agrees z y → state z.capacity z.list y.places ≡ y
  as_framed {z} {y} a = λ i. state (sym a.capacities i) (sym a.lists i) y.places

  pub agrees_refl : {z : State K} → FeatureList z.list → Agrees z z
  agrees_refl f = record { capacities = refl; lists = refl; functions = matches_refl f }

  -- whether two states agree is stable
  pub agrees_stable : {z y : State K} → Stable (Agrees z y)
  agrees_stable {z} {y} n =
      record {
        capacities = equal (λ m. n (λ a. m a.capacities));
        lists = sure (list_discrete ℕ_discrete y.list z.list) (λ m. n (λ a. m a.lists));
        functions = record {
          features = sure (features_decided z.list) (λ m. n (λ a. m a.functions.features));
          many = equal (λ m. n (λ a. m a.functions.many));
          each = λ p s v. sure (amount_discrete (get_or z.places p zero_fun s) (get_or y.places p zero_fun s)) (λ m. n (λ a. m (a.functions.each p s v)));
        };
      }

  -- states that agree do so with one function replaced
  pub agrees_put : {z y : State K} {g h : Fun K} (p : ℕ) → Agrees z y → Agree z.list g h → Agrees (put p g z) (put p h y)
  agrees_put p a e = record { capacities = a.capacities; lists = a.lists; functions = matches_set p a.functions e }
