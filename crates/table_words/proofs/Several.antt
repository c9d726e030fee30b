-- Several functions built in turn, one call after the other, and what their branches mean. Assumes nothing.
use mathlib.Core.Path.{◌≡◌, refl, sym, ap, ap₂, ◌∙◌}
use mathlib.Core.Option.{Option, none, some}
use mathlib.Core.List.{List, [], ◌∷◌, ◌++◌}
use Prim.Native.Nat.{ℕ, ◌<◌}
use native.Mathlib.Omega.{arith}
use lib.ListN.{length, get_or}
use Rattle.theory.specs.Build.{Ext, build, each}
use Rattle.theory.specs.Diagrams.{Branch, Node, blank}
use Rattle.theory.specs.Functions.{Fun, zero_fun}
use Rattle.theory.specs.Kind.{Kind}
use Rattle.theory.specs.WellFormed.{Mean}
use Rattle.theory.proofs.Growing.{build_grows, each_append, each_grows, each_length, ext_le}
use Rattle.theory.proofs.Meaning.{builds_right}
use Rattle.theory.proofs.Values.{means_place}
use Rattle.table_words.specs.Holding.{Layout, Lawful, Holds, Grown, Gives, built, Result, built_all, Results}
use Rattle.table_words.proofs.Filling.{gives_eq, grown_nodes, grown_over, grown_refl, grown_trans}

module _ {K : Kind} {T : Layout K} (L : Lawful T) where
  pub all_ext : (w : List ℕ) (gs : List (Fun K)) → Ext (T.nodes w) (built_all T w gs).1
  unfolding built_all
  all_ext w gs = each_grows (build 0 (T.sizes w)) (build_grows 0 (T.sizes w)) gs (T.nodes w)

  -- more functions only add nodes
  all_more : (w : List ℕ) (gs hs : List (Fun K)) → Ext (built_all T w gs).1 (built_all T w (gs ++ hs)).1
  unfolding built_all
  all_more w gs hs =
      rw (each_append (build 0 (T.sizes w)) gs hs (T.nodes w))
      (each_grows (build 0 (T.sizes w)) (build_grows 0 (T.sizes w)) hs (each (build 0 (T.sizes w)) gs (T.nodes w)).1)

  all_snoc : (w : List ℕ) (gs : List (Fun K)) (g : Fun K) → built_all T w (gs ++ (g ∷ [])) ≡
      ((built_all T w gs).0 ++ ((build 0 (T.sizes w) g (built_all T w gs).1).0 ∷ []), (build 0 (T.sizes w) g (built_all T w gs).1).1)
  unfolding built_all
  all_snoc w gs g = each_append (build 0 (T.sizes w)) gs (g ∷ []) (T.nodes w)

  -- none is built
  pub results_none : (w : List ℕ) → Holds T w → Results T w w [] (some [])
  unfolding built_all
  results_none w ok = record { grown = grown_refl L w ok; answers = (refl, L.within w ok.laid) }

  module _ (w t t' : List ℕ) (ok : Holds T w) (gs : List (Fun K)) (bs : List (Branch K)) (r : Results T w t gs (some bs)) (g : Fun K) where
    -- what the next call gives is what `each` goes on with
    next : (a : Option (Branch K)) → Result T t t' 0 g a → Gives T t t' (build 0 (T.sizes w) g (built_all T w gs).1) a
    unfolding built
    next a q =
        let m : T.nodes t ≡ (built_all T w gs).1 = grown_nodes L w t (built_all T w gs).1 r.grown r.answers.1 in
        let s : T.sizes t ≡ T.sizes w = L.kept_sizes w t ok.laid r.grown.kept in
        gives_eq L (sym (ap₂ (λ (Z : List ℕ) (N : List (Node K)). build 0 Z g N) s m)) q

    -- one more
    pub results_more : (b : Branch K) → Result T t t' 0 g (some b) → Results T w t' (gs ++ (g ∷ [])) (some (bs ++ (b ∷ [])))
    results_more b q =
        let y = next (some b) q in
        let c : T.capacity t ≡ T.capacity w = L.kept_capacity w t r.grown.kept in
        record {
          grown = rw (all_snoc w gs g) (grown_trans L w t t' _ _ r.grown y.grown);
          answers = rw (all_snoc w gs g)
              ((ap₂ (λ (p : List (Branch K)) (x : Branch K). p ++ (x ∷ [])) r.answers.0 y.answers.0), omega (arith, y.answers.1));
        }

    -- no room for it, and so for none of those that follow
    pub results_stop : (hs : List (Fun K)) → Result T t t' 0 g none → Results T w t' ((gs ++ (g ∷ [])) ++ hs) none
    results_stop hs q =
        let y = next none q in
        let c : T.capacity t ≡ T.capacity w = L.kept_capacity w t r.grown.kept in
        let gr : Grown T w t' (built_all T w (gs ++ (g ∷ []))).1 = rw (all_snoc w gs g) (grown_trans L w t t' _ _ r.grown y.grown) in
        let ov : T.capacity w < length (built_all T w (gs ++ (g ∷ []))).1 = rw (all_snoc w gs g) (omega (arith, y.answers)) in
        let x : Ext (built_all T w (gs ++ (g ∷ []))).1 (built_all T w ((gs ++ (g ∷ [])) ++ hs)).1 = all_more w (gs ++ (g ∷ [])) hs in
        record { grown = grown_over L w t' _ _ gr ov x; answers = omega (arith, ext_le x) }

  -- the branches mean the functions, one by one
  module _ (w t : List ℕ) (ok : Holds T w) (gs : List (Fun K)) (bs : List (Branch K)) (r : Results T w t gs (some bs)) where
    pub results_long : length bs ≡ length gs
    unfolding built_all
    results_long = ap length r.answers.0 ∙ each_length (build 0 (T.sizes w)) gs (T.nodes w)

    pub results_mean : (i : ℕ) → i < length gs → Mean (T.nodes t) 0 (T.sizes w) (get_or bs i blank) (get_or gs i zero_fun)
    unfolding built_all
    results_mean i h =
        let n : T.nodes t ≡ (built_all T w gs).1 = grown_nodes L w t (built_all T w gs).1 r.grown r.answers.1 in
        rw (n, r.answers.0) (means_place (built_all T w gs).1 0 (T.sizes w) (built_all T w gs).0 gs (builds_right (T.sizes w) gs (T.nodes w) ok.wf).means i h)
