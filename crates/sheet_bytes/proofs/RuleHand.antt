-- The hand of rule sheets is fair, their frame is regular. Assumes nothing.
use mathlib.Core.Path.{◌≡◌, refl, sym, ap, ◌∙◌}
use mathlib.Core.List.{List, ◌∷◌, ◌++◌}
use Prim.Native.Nat.{ℕ, suc, ◌+◌, ◌-◌, ◌≤◌, ◌<◌}
use native.Mathlib.Nat.{add-sub_cancel_left}
use native.Mathlib.Decide.{dec_lt}
use native.Mathlib.Omega.{arith}
use lib.ListN.{length, drop, length-drop}
use borrow.Author.Tests.{lt-ltb, le-ltb}
use Rattle.theory.specs.Diagrams as D
use Rattle.theory.specs.Diagrams.{Target}
use Rattle.theory.specs.Rules.{rules, Branch, phrase, node}
use Rattle.promises.specs.RuleWords.{decode}
use Rattle.promises.specs.Sheet.{byte, pair, triple, node_place}
use Rattle.sheet_bytes.specs.Sections.{two}
use Rattle.sheet_bytes.specs.Sheet.{target_bytes, branch_bytes}
use Rattle.sheet_bytes.specs.Hand.{Fair}
use Rattle.sheet_bytes.specs.Frame.{Regular}
use Rattle.sheet_bytes.specs.RuleFrame.{SmallTarget, FineWord, rule_hand, rule_frame}
use Rattle.sheet_bytes.proofs.Sections.{Bytes, bytes_more, bytes_two, rest_head, rest_tail, moved, two_at, slid, cut, pair_small, two_back}

-- ---- words and branches
pub branch_phrase : (w : ℕ) → w < 65536 → decode w ≡ phrase w
unfolding decode
branch_phrase w h = rw (lt-ltb w 65536 h)

pub branch_node : (w : ℕ) → 65536 ≤ w → decode w ≡ node (w - 65536)
unfolding decode
branch_node w h = rw (le-ltb w 65536 h)

-- ---- what was written is read
three_long : (s : List ℕ) (p x q : ℕ) (r : List ℕ) → drop p s ≡ x ∷ (two q ++ r) → p + 3 ≤ length s
unfolding two
three_long s p x q r e = let l : length (drop p s) ≡ suc (suc (suc (length r))) = ap length e in omega (arith, length-drop p s)

target_reads : (s : List ℕ) (p : ℕ) (t : Target rules) (r : List ℕ) → SmallTarget t → drop p s ≡ target_bytes t ++ r →
    (decode (triple s p) ≡ record { adds = tt; to = t }) × (drop (p + 3) s ≡ r) × FineWord s p
unfolding target_bytes triple
target_reads s p (D.leaf q) r h e =
    let a : byte s p ≡ 0 = rest_head s p _ _ e in
    let t = two_at s (p + 1) q r (rest_tail s p _ _ e) in
    let w : triple s p ≡ q = omega arith in
    (ap decode w ∙ branch_phrase q h, moved s (p + 1 + 2) (p + 3) r (omega arith) t.1, record { long = three_long s p 0 q r e; flag = omega arith })
target_reads s p (D.node i) r h e =
    let a : byte s p ≡ 1 = rest_head s p _ _ e in
    let t = two_at s (p + 1) i r (rest_tail s p _ _ e) in
    let w : triple s p ≡ 65536 + i = omega arith in (
      ap decode w ∙ branch_node (65536 + i) (omega arith) ∙ ap node (add-sub_cancel_left 65536 i),
      moved s (p + 1 + 2) (p + 3) r (omega arith) t.1,
      record { long = three_long s p 1 i r e; flag = omega arith },
    )

target_bytes_lem : (t : Target rules) → SmallTarget t → Bytes (target_bytes t)
unfolding target_bytes
target_bytes_lem (D.leaf p) h = bytes_more 0 (two p) (omega arith) (bytes_two p h)
target_bytes_lem (D.node i) h = bytes_more 1 (two i) (omega arith) (bytes_two i h)

-- ---- what is read is written again
module _ (s : List ℕ) (B : Bytes s) (p : ℕ) (f : FineWord s p) where
  put : (x y : ℕ) → byte s p ≡ x → pair s (p + 1) ≡ y → drop p s ≡ x ∷ (two y ++ drop (p + 3) s)
  put x y a b =
      cut s p (omega (arith, f.long))
      ∙ ap (λ (l : List ℕ). byte s p ∷ l)
      (two_back s B (p + 1) (omega (arith, f.long)) ∙ ap (λ (l : List ℕ). two (pair s (p + 1)) ++ l) (slid s (p + 1 + 2) (p + 3) (omega arith)))
      ∙ (λ i. a i ∷ (two (b i) ++ drop (p + 3) s))

  target_back : drop p s ≡ branch_bytes (decode (triple s p)) ++ drop (p + 3) s
  unfolding target_bytes triple
  target_back = go (dec_lt (triple s p) 65536)
    where
      go : Dec (triple s p < 65536) → drop p s ≡ branch_bytes (decode (triple s p)) ++ drop (p + 3) s
      go (yes w) =
          put 0 (triple s p) (omega arith) (omega arith)
          ∙ ap (λ (b : Branch). branch_bytes b ++ drop (p + 3) s) (sym (branch_phrase (triple s p) w))
      go (no w) =
          put 1 (triple s p - 65536) (omega (arith, f.flag, pair_small s B (p + 1))) (omega (arith, f.flag, pair_small s B (p + 1)))
          ∙ ap (λ (b : Branch). branch_bytes b ++ drop (p + 3) s) (sym (branch_node (triple s p) (omega arith)))

-- ---- the hand and the frame
pub rule_fair : Fair rule_hand
rule_fair =
    record {
      none = λ s p. omega arith;
      more = λ s p v. omega arith;
      ahead = λ s p. omega arith;
      narrow = λ b h. target_bytes_lem b.to h;
      reads = λ s p b r h e. target_reads s p b.to r h e;
      back = λ s p B f. (f.long, target_back s B p f);
    }

pub rule_regular : Regular rule_frame
unfolding node_place
rule_regular = record { fair = rule_fair; front = λ s. refl; next = λ s i. refl }
