-- A place set in an untidy table: it is untidy again, and the function of that place, and no other, is replaced. Assumes nothing.
use mathlib.Core.Path.{◌≡◌, sym, ap, subst, ◌∙◌}
use mathlib.Core.Logic.{⊎_elim}
use mathlib.Core.List.{List, [], ◌∷◌}
use Prim.Native.Nat.{ℕ, ◌+◌, ◌*◌, ◌≤◌, ◌<◌}
use native.Mathlib.Omega.{arith}
use lib.ListN.{length, get_or, set, length-set}
use lib.Seq.{ext_get_or, get_or-set_same, get_or-set_other}
use Rattle.theory.specs.Diagrams.{Branch, Node, meaning}
use Rattle.theory.specs.Functions.{Fun, zero_fun}
use Rattle.theory.specs.Kind.{Kind}
use Rattle.theory.specs.Settings.{Valid}
use Rattle.theory.specs.WellFormed.{Ok}
use Rattle.table_words.specs.Table.{Table, Regular, nodes, fun_at}
use Rattle.table_words.specs.Picture.{Becomes}
use Rattle.table_words.proofs.Reading.{length_said, at_said}
use Rattle.table_words.proofs.Chains.{last_ext}
use Rattle.table_words.proofs.Tab.{same}
use Rattle.table_words.proofs.Words.{hash_at_ext}
use Rattle.table_sweep.specs.Collecting.{Framed, Steady}
use Rattle.table_sweep.specs.Tidy.{Untidy, Tidied}
use Rattle.table_sweep.proofs.Collecting.{untidy_framed}
use Rattle.table_sweep.proofs.Beginning.{begun_same}
use Rattle.table_sweep.proofs.Framing.{known, padded_same, same_size, same_sizes, same_nodes, steady_framed}
use Rattle.table_sweep.proofs.Placing.{Placed, replaced_steady}
use Rattle.promises.specs.Words.{head, word, capacity, features, count, sizes, feature, hash_at, last_of, Zeros}

module _ {K : Kind} {T : Table K} (L : Regular T) {w w' : List ℕ} {p : ℕ} {b : Branch K} (u : Untidy T p w) (hp : p < T.places) (s : Placed T w w' p b) where
  steady : Steady w w'
  steady = replaced_steady s.replaced

  sizes_same : sizes w' ≡ sizes w
  sizes_same = same_sizes L (untidy_framed u) steady

  nodes_same : nodes T w' ≡ nodes T w
  nodes_same = same_nodes L (untidy_framed u) steady

  low : (j : ℕ) → j < 32 → head w' j ≡ head w j
  low = s.replaced.low

  zeros : (a e : ℕ) → e ≤ 32 → Zeros w a e → Zeros w' a e
  unfolding head
  zeros a e h z = record { zeros = λ j l g. low j (omega arith) ∙ z.zeros j l g }

  -- what holds of the branch set and of every branch before holds of every branch now
  each_place : (P : Branch K → Type 0) → P b → ((q : ℕ) → q < T.places → P (T.root_at w q)) → (q : ℕ) → q < T.places → P (T.root_at w' q)
  each_place P x o q h = ⊎_elim
      (λ e. subst P (sym (ap (T.root_at w') e ∙ s.here)) x)
      (λ e. subst P (sym (s.others q h e)) (o q h))
      (same q p)

  word_same : (i j : ℕ) → word w' i j ≡ word w i j
  unfolding word
  word_same i j = s.replaced.rest (8192 + 16 * i + j) (omega arith)

  hash_same : (i : ℕ) → hash_at w' i ≡ hash_at w i
  hash_same i = hash_at_ext w w' i (λ j l. word_same i j)

  last_same : (h e : ℕ) → last_of (hash_at w) h e ≡ last_of (hash_at w') h e
  last_same h e = last_ext (hash_at w) (hash_at w') h e (λ i l. sym (hash_same i))

  pub placed_untidy : Ok (nodes T w) 0 b → Untidy T p w'
  unfolding head
  placed_untidy ok =
      let c : capacity w' ≡ capacity w = low 1 (omega arith) in
      let f : features w' ≡ features w = low 2 (omega arith) in
      let n : count w' ≡ count w = low 19 (omega arith) in
      let k : Framed T w' = steady_framed L (untidy_framed u) steady in
      record {
        room = k.room;
        some = omega (arith, u.some);
        most = k.most;
        kind_is = low 0 (omega arith) ∙ u.kind_is;
        list = k.list;
        past_sizes = rw f (zeros (3 + features w) 19 (omega arith) u.past_sizes);
        within = k.within;
        shares = λ j h. low (20 + j) (omega arith) ∙ u.shares j h;
        unused = zeros 22 32 (omega arith) u.unused;
        middle = record { zeros = λ j l g. s.replaced.rest j l ∙ u.middle.zeros j l g };
        clean = record { zeros = λ j l g. s.replaced.rest j (omega arith) ∙ u.clean.zeros j (omega arith) (omega arith) };
        wf = k.wf;
        spared = k.spared;
        padded = λ i h.
            let l : i < count w = omega arith in
            padded_same L w w' i i (word_same i 0) (same_size L (untidy_framed u) steady (feature w i) (known (untidy_framed u) i l)) (λ v g. word_same i (1 + v)) (u.padded i l);
        links = λ i h. word_same i 13 ∙ u.links i (omega arith) ∙ ap (λ (x : ℕ). last_of (hash_at w) x i) (sym (hash_same i)) ∙ last_same (hash_at w' i) i;
        heads = λ h g. s.replaced.rest (4096 + h) (omega arith) ∙ u.heads h g ∙ last_same h (count w) ∙ ap (last_of (hash_at w') h) (sym n);
        begun = begun_same p sizes_same nodes_same (λ q h. s.others q (omega arith) (omega arith)) u.begun;
        rooted = λ q h. subst (λ (N : List (Node K)). Ok N 0 (T.root_at w' q)) (sym nodes_same) (each_place (Ok (nodes T w) 0) ok u.rooted q h);
      }

  pub placed_range : ((r : List ℕ) → Valid (sizes w) r → T.InRange (meaning (nodes T w) b r))
      → ((q : ℕ) → q < T.places → (r : List ℕ) → Valid (sizes w) r → T.InRange (fun_at T w q r))
      → (q : ℕ) → q < T.places → (r : List ℕ) → Valid (sizes w') r → T.InRange (fun_at T w' q r)
  placed_range x o q h r y =
      subst (λ (N : List (Node K)). T.InRange (meaning N (T.root_at w' q) r)) (sym nodes_same)
      (each_place (λ c. (r : List ℕ) → Valid (sizes w) r → T.InRange (meaning (nodes T w) c r)) x o q h r
      (subst (λ (S : List ℕ). Valid S r) sizes_same y))

  -- the functions of the places, with that of place p replaced
  pub placed_said : T.said w' ≡ set (T.said w) p (meaning (nodes T w) b)
  placed_said =
      ext_get_or zero_fun (T.said w') (set (T.said w) p g) (length_said L w' ∙ sym (length-set (T.said w) p g ∙ length_said L w)) each
    where
      g : Fun K
      g = meaning (nodes T w) b

      each : (q : ℕ) → q < length (T.said w') → get_or (T.said w') q zero_fun ≡ get_or (set (T.said w) p g) q zero_fun
      each q h =
          let hq : q < T.places = omega (arith, length_said L w') in
          at_said L w' q hq ∙ ap (λ (N : List (Node K)). meaning N (T.root_at w' q)) nodes_same
          ∙ ⊎_elim
          (λ e. rw e (ap (λ (c : Branch K). meaning (nodes T w) c) s.here ∙ sym (get_or-set_same (T.said w) p g zero_fun (omega (arith, length_said L w)))))
          (λ e. ap (λ (c : Branch K). meaning (nodes T w) c) (s.others q hq e) ∙ sym (at_said L w q hq) ∙ sym (get_or-set_other (T.said w) p q g zero_fun e))
          (same q p)

  -- tidied, it is the table with that function replaced
  pub finished : (v : List ℕ) → Tidied T w' v → Becomes T p (meaning (nodes T w) b ∷ []) w v
  finished v t =
      let c : capacity w' ≡ capacity w = low 1 (omega arith) in
      record {
        long = t.long ∙ s.replaced.long;
        proper = rw (← placed_said, ← sizes_same, ← c) t.proper;
        pictures = rw (← placed_said, ← sizes_same, ← c) t.pictures;
        past = λ j h. t.past j (omega arith) ∙ s.replaced.rest j (omega arith);
      }
