-- GOOD BYTES is a stable condition: bytes of which it cannot fail are good. Assumes nothing.
use mathlib.Core.Path.{◌≡◌, ap}
use mathlib.Core.HLevel.{dec→stable}
use mathlib.Core.List.{List}
use mathlib.Core.Option.{Option, none, some}
use Prim.Native.Nat.{ℕ}
use native.Mathlib.Decide.{ℕ_discrete, dec_le, dec_lt}
use native.Mathlib.Omega.{arith}
use Rattle.theory.proofs.Ranges.{features_decided}
use Rattle.promises.specs.Sheet.{sheet_sizes, Begins, Lies, SheetSits, InOrder, GoodSheet}

-- a walk that ended with a number
found : (r : Option ℕ) (m : ℕ) → ((r ≡ some m → ⊥) → ⊥) → r ≡ some m
found none m n = absurd (n (λ e. let z : ◌≡◌ {A = ℕ} 0 1 = cc in omega arith))
found (some k) m n = ap some (dec→stable (ℕ_discrete k m) (λ d. n (λ e. d (let q : k ≡ m = cc in q))))

sits : {s : List ℕ} {i k w : ℕ} → ((SheetSits s i k w → ⊥) → ⊥) → SheetSits s i k w
sits {s} {i} {k} {w} n =
    record {
      flag = dec→stable (dec_lt _ _) (λ m. n (λ b. m b.flag));
      earlier = λ h. dec→stable (dec_lt _ _) (λ m. n (λ b. m (b.earlier h)));
      higher = λ h. dec→stable (dec_le _ _) (λ m. n (λ b. m (b.higher h)));
    }

begins : {s : List ℕ} → ((Begins s → ⊥) → ⊥) → Begins s
begins {s} n =
    record {
      zero = dec→stable (ℕ_discrete _ _) (λ m. n (λ h. m h.zero));
      one = dec→stable (ℕ_discrete _ _) (λ m. n (λ h. m h.one));
      edition = dec→stable (ℕ_discrete _ _) (λ m. n (λ h. m h.edition));
      long = dec→stable (dec_le _ _) (λ m. n (λ h. m h.long));
      list = dec→stable (features_decided (sheet_sizes s)) (λ m. n (λ h. m h.list));
    }

lies : {s : List ℕ} → ((Lies s → ⊥) → ⊥) → Lies s
lies {s} n =
    record {
      room = dec→stable (dec_le _ _) (λ m. n (λ l. m l.room));
      known = λ i h. dec→stable (dec_lt _ _) (λ m. n (λ l. m (l.known i h)));
      ends = dec→stable (ℕ_discrete _ _) (λ m. n (λ l. m l.ends));
      zero = dec→stable (ℕ_discrete _ _) (λ m. n (λ l. m l.zero));
      one = dec→stable (ℕ_discrete _ _) (λ m. n (λ l. m l.one));
    }

pub good_stable : {s : List ℕ} → ((GoodSheet s → ⊥) → ⊥) → GoodSheet s
unfolding InOrder
good_stable {s} n =
    record {
      bytes = λ p. dec→stable (dec_lt _ _) (λ m. n (λ g. m (g.bytes p)));
      ordered = record {
        head = begins (λ m. n (λ g. m g.ordered.head));
        lie = lies (λ m. n (λ g. m g.ordered.lie));
        nodes = record {
          each = λ i h. record {
            lower = record { lower = λ v l. sits (λ m. n (λ g. m ((g.ordered.nodes.each i h).lower.lower v l))) };
            differ = λ a. n (λ g. (g.ordered.nodes.each i h).differ a);
          };
        };
        once = record { once = λ i h. record { new = λ j l e. n (λ g. (g.ordered.once.once i h).new j l e) } };
      };
      top = sits (λ m. n (λ g. m g.top));
      order = found _ _ (λ m. n (λ g. m g.order));
    }
