-- THE LAWS OF A DEED: its refusals ascend from above DAMAGED and can be told; functions that agree are refused, replaced and answered alike; one answer. Assumes nothing.
use mathlib.Core.Path.{◌≡◌, refl, sym, subst, ◌∙◌}
use mathlib.Core.List.{List}
use Prim.Native.Nat.{ℕ}
use Rattle.theory.specs.Kind.{Kind}
use Rattle.theory.specs.Functions.{Fun}
use Rattle.settings.specs.Refusals.{Cases, Ends, Above}
use Rattle.settings.specs.Refusals.{Taken}
use Rattle.promises.specs.State.{State, state}
use Rattle.promises.specs.Loan.{Loan}
use Rattle.promises.specs.Table.{Ask, sound_table, Effect, Tabled, table}
use Rattle.promises.specs.Deed.{Answer, Deed, plain}
use Rattle.table_calls.proofs.Like.{Like}
use Rattle.demands.specs.Agrees.{Matches, Agrees}
use Rattle.demands.specs.Ground.{Ground}
use Rattle.demands.specs.TableGround.{AgreesAs}
use Rattle.demands.proofs.Firm.{Firm}
use Rattle.demands.proofs.Matching.{as_framed}
use Rattle.demands.proofs.Effects.{Effects, Same, on_table}

-- two results that end alike and answer one value are one
pub answer_one : {A : Type 0} (R : Answer A) (r q : R.Result) → R.ending r ≡ R.ending q → R.value r ≡ R.value q → r ≡ q
answer_one R r q e v = R.nothing_else r ∙ (λ i. R.made (e i) (v i)) ∙ sym (R.nothing_else q)

module _ {L : Loan} {G : Ground L} (E : Effects G) where
  pub record Lawful (d : Deed L) : Type 1 where
    pub ordered : (z : L.Plain) → Above 1 (d.cases z)
    pub firm : (z : L.Plain) → Firm (d.cases z)
    pub cases_like : (z y : L.Plain) → G.Agrees d.needs z y → Like (d.cases z) (d.cases y)
    pub writes_like : (z y : L.Plain) → G.Agrees d.needs z y → Ends (d.cases z) Taken → E.Same d.needs z (d.writes z) (d.writes y)
    pub gives_like : (z y : L.Plain) → G.Agrees d.needs z y → Ends (d.cases z) Taken → (r : d.Result) → d.Gives z r → d.Gives y r
    pub one : (z : L.Plain) (r q : d.Result) → d.ending r ≡ Taken → d.ending q ≡ Taken → d.Gives z r → d.Gives z q → r ≡ q

-- ---- a call on one table, told of functions over one capacity and one list
module _ {K : Kind} {T : Tabled K} where
  pub record Steady (d : Deed (table T)) : Type 1 where
    pub asks : d.needs ≡ sound_table
    pub ordered : (z : State K) → Above 1 (d.cases z)
    pub firm : (z : State K) → Firm (d.cases z)
    pub cases_like : (cap : ℕ) {S : List ℕ} {gs hs : List (Fun K)} → Matches S gs hs → Like (d.cases (state cap S gs)) (d.cases (state cap S hs))
    pub writes_like : (cap : ℕ) {S : List ℕ} {gs hs : List (Fun K)} → Matches S gs hs → Ends (d.cases (state cap S gs)) Taken →
        Same T.places sound_table S (d.writes (state cap S gs)) (d.writes (state cap S hs))
    pub gives_like : (cap : ℕ) {S : List ℕ} {gs hs : List (Fun K)} → Matches S gs hs → Ends (d.cases (state cap S gs)) Taken →
        (r : d.Result) → d.Gives (state cap S gs) r → d.Gives (state cap S hs) r
    pub one : (z : State K) (r q : d.Result) → d.ending r ≡ Taken → d.ending q ≡ Taken → d.Gives z r → d.Gives z q → r ≡ q

  module _ {d : Deed (table T)} (s : Steady d) where
    whole : {z y : State K} → AgreesAs d.needs z y → Agrees z y
    whole {z} {y} a = subst (λ (n : Ask). AgreesAs n z y) s.asks a

    pub steady_lawful : Lawful (on_table T) d
    steady_lawful =
        record {
          ordered = s.ordered;
          firm = s.firm;
          cases_like = λ z y a. let b = whole {z = z} {y = y} a in subst (λ (x : State K). Like (d.cases z) (d.cases x)) (as_framed b) (s.cases_like z.capacity b.functions);
          writes_like = λ z y a e.
              let b = whole {z = z} {y = y} a in
              subst (λ (n : Ask). Same T.places n z.list (d.writes z) (d.writes y)) (sym s.asks)
              (subst (λ (x : State K). Same T.places sound_table z.list (d.writes z) (d.writes x)) (as_framed b) (s.writes_like z.capacity b.functions e));
          gives_like = λ z y a e r g. let b = whole {z = z} {y = y} a in subst (λ (x : State K). d.Gives x r) (as_framed b) (s.gives_like z.capacity b.functions e r g);
          one = s.one;
        }

-- one that returns only how it ended, on tables of m places
module _ {K : Kind} where
  pub record Brief (m : ℕ) (l : State K → Cases) (e : State K → Effect K) : Type 1 where
    pub ordered : (z : State K) → Above 1 (l z)
    pub firm : (z : State K) → Firm (l z)
    pub cases_like : (cap : ℕ) {S : List ℕ} {gs hs : List (Fun K)} → Matches S gs hs → Like (l (state cap S gs)) (l (state cap S hs))
    pub writes_like : (cap : ℕ) {S : List ℕ} {gs hs : List (Fun K)} → Matches S gs hs → Ends (l (state cap S gs)) Taken → Same m sound_table S (e (state cap S gs)) (e (state cap S hs))

  pub brief_lawful : {T : Tabled K} {l : State K → Cases} {e : State K → Effect K} → Brief T.places l e → Lawful (on_table T) (plain {L = table T} l e)
  brief_lawful s =
      steady_lawful (record {
        asks = refl;
        ordered = s.ordered;
        firm = s.firm;
        cases_like = s.cases_like;
        writes_like = s.writes_like;
        gives_like = λ cap m e r g. tt;
        one = λ z r q a b g h. a ∙ sym b;
      })
