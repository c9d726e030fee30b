-- A walk that answers has built: the nodes that it passed are those that `build` appends. Assumes nothing.
use mathlib.Core.Path.{◌≡◌, refl, sym, ap, ◌∙◌, subst}
use mathlib.Core.Option.{Option, none, some}
use mathlib.Core.List.{List, [], ◌∷◌, map}
use Prim.Native.Nat.{ℕ, suc, ◌≤◌, ◌<◌}
use native.Mathlib.Nat.{zero-add}
use native.Mathlib.Decide.{ℕ_discrete, dec_lt}
use native.Mathlib.Omega.{arith}
use lib.ListN.{length, get_or, take, drop, length-drop, length-map, take-append-drop}
use lib.Seq.{length-take-le, get_or-take}
use Rattle.theory.specs.Kind.{Kind}
use Rattle.theory.specs.Settings.{Pos, Valid}
use Rattle.theory.specs.Functions.{Fun, held, parts}
use Rattle.theory.specs.Diagrams.{Branch, Node, Target, at, blank, empty, leaf, node, up, value}
use Rattle.theory.specs.Rests.{Free}
use Rattle.theory.specs.WellFormed.{Mean, Means, Ok, WellFormed}
use Rattle.theory.specs.Build.{Built, build, each, make}
use Rattle.theory.specs.Walk.{bind, close, finish, scan, scans, step, visit}
use Rattle.theory.proofs.Lists.{drop_head, get_or_map_in}
use Rattle.theory.proofs.Growing.{build_cons}
use Rattle.theory.proofs.WellFormed.{wf_take}
use Rattle.theory.proofs.Values.{mean_here, mean_prefix, mean_wait, means_of, value_end}
use Rattle.theory.proofs.Making.{make_next}
use Rattle.theory.proofs.Canonical.{build_skips, canonical}

abbrev pub Told : (ℕ → Type 0) → Option ℕ → Type 0
Told P none = Unit {0}
Told P (some d) = P d

told_map : (P Q : ℕ → Type 0) → ((d : ℕ) → P d → Q d) → (o : Option ℕ) → Told P o → Told Q o
told_map P Q f none p = tt
told_map P Q f (some d) p = f d p

told_bind : (P Q : ℕ → Type 0) (k : ℕ → Option ℕ) (o : Option ℕ) → Told P o → ((d : ℕ) → P d → Told Q (k d)) → Told Q (bind o k)
unfolding bind
told_bind P Q k none p h = tt
told_bind P Q k (some d) p h = h d p

told_close : (P Q : ℕ → Type 0) (i : ℕ) (o : Option ℕ) → Told P o → (P i → Q (suc i)) → Told Q (close i o)
unfolding close finish
told_close P Q i none p h = tt
told_close P Q i (some d) p h = go (ℕ_discrete d i)
  where
    go : (e : Dec (d ≡ i)) → Told Q (finish i d e)
    go (yes e) = h (subst P e p)
    go (no e) = tt

module _ {K : Kind} where
  -- the walk looks at targets only
  pub scans_map : (f : Target K → ℕ → Option ℕ) (h : Branch K → Branch K) → ((b : Branch K) → (h b).to ≡ b.to) → (bs : List (Branch K)) (c : ℕ) → scans f (map h bs) c ≡ scans f bs c
  unfolding scans
  scans_map f h e [] c = refl
  scans_map f h e (b ∷ bs) c =
      ap (λ (t : Target K). bind (f t c) (λ d. scans f (map h bs) d)) (e b) ∙ ap (bind (f b.to c)) (λ i d. scans_map f h e bs d i)

  pub record Walked (N : List (Node K)) (k : ℕ) (ns : List ℕ) (b : Branch K) (g : Fun K) (c d : ℕ) : Type 0 where
    pub up : c ≤ d
    pub top : d ≤ length N
    pub built : build k ns g (take c N) ≡ (b, take d N)

  pub record AllWalked (N : List (Node K)) (k : ℕ) (ns : List ℕ) (bs : List (Branch K)) (gs : List (Fun K)) (c d : ℕ) : Type 0 where
    pub ups : c ≤ d
    pub tops : d ≤ length N
    pub builts : each (build k ns) gs (take c N) ≡ (bs, take d N)

  pub scans_sound : (S : List ℕ) (k : ℕ) (ns : List ℕ) (N : List (Node K)) (f : Target K → ℕ → Option ℕ) →
      ((b : Branch K) (g : Fun K) → Mean N k ns b g → (c : ℕ) → c ≤ length N → Told (Walked N k ns b g c) (f b.to c)) →
      (bs : List (Branch K)) (gs : List (Fun K)) → Means N k ns bs gs → (c : ℕ) → c ≤ length N → Told (AllWalked N k ns bs gs c) (scans f bs c)
  unfolding scans
  scans_sound S k ns N f h [] [] m c hc = record { ups = omega arith; tops = hc; builts = refl }
  scans_sound S k ns N f h [] (g ∷ gs) m c hc = absurd m
  scans_sound S k ns N f h (b ∷ bs) [] m c hc = absurd m
  scans_sound S k ns N f h (b ∷ bs) (g ∷ gs) m c hc =
      told_bind (Walked N k ns b g c) (AllWalked N k ns (b ∷ bs) (g ∷ gs) c) (λ d. scans f bs d) (f b.to c) (h b g m.0 c hc)
      (λ d p. told_map (AllWalked N k ns bs gs d) (AllWalked N k ns (b ∷ bs) (g ∷ gs) c) (λ e q. both d e p q) (scans f bs d) (scans_sound S k ns N f h bs gs m.1 d p.top))
    where
      both : (d e : ℕ) → Walked N k ns b g c d → AllWalked N k ns bs gs d e → AllWalked N k ns (b ∷ bs) (g ∷ gs) c e
      both d e p q =
          record {
            ups = omega (arith, p.up, q.ups);
            tops = q.tops;
            builts =
                ap (λ (r : Built K). let t = each (build k ns) gs r.1 in let a : List (Branch K) × List (Node K) = (r.0 ∷ t.0, t.1) in a) p.built
                ∙ ap (λ (t : List (Branch K) × List (Node K)). let a : List (Branch K) × List (Node K) = (b ∷ t.0, t.1) in a) q.builts;
          }

  module _ (S : List ℕ) (k n : ℕ) (ns : List ℕ) (rest : drop k S ≡ n ∷ ns) (pos : Pos (n ∷ ns)) (N : List (Node K)) (w : WellFormed S N) (f : Target K → ℕ → Option ℕ)
      (ih : (b : Branch K) (g : Fun K) → Mean N (suc k) ns b g → (c : ℕ) → c ≤ length N → Told (Walked N (suc k) ns b g c) (f b.to c)) (g : Fun K) (c : ℕ) (hc : c ≤ length N) where
    wait_sound : (b : Branch K) → Mean N k (n ∷ ns) b g → Ok N (suc k) b → Told (Walked N k (n ∷ ns) b g c) (f b.to c)
    unfolding Free
    wait_sound b m o =
        told_map (Walked N (suc k) ns b (held 0 g) c) (Walked N k (n ∷ ns) b g c)
        (λ d p. record {
          up = p.up;
          top = p.top;
          built = build_skips S k n ns rest pos (take c N) (wf_take S N c w) g (λ v h s x. sym ((mean_wait m o v h).says s x) ∙ (mean_wait m o 0 pos.0).says s x) ∙ p.built;
        })
        (f b.to c) (ih b (held 0 g) (mean_wait m o 0 pos.0) c hc)

    visit_sound : (a : K.Off) (i : ℕ) → Mean N k (n ∷ ns) (record { adds = a; to = node i }) g → (d : Dec ((at N i).feature ≡ k)) (e : Dec (i < c)) →
        Told (Walked N k (n ∷ ns) (record { adds = a; to = node i }) g c) (visit (at N i) k i c f d e)
    unfolding visit
    visit_sound a i m (no p) e = wait_sound (record { adds = a; to = node i }) m (m.ok.0, omega (arith, m.ok.1))
    visit_sound a i m (yes p) (yes h) =
        record {
          up = omega arith;
          top = hc;
          built = canonical S k (n ∷ ns) rest pos (take c N) (wf_take S N c w) (record { adds = a; to = node i }) g
              (mean_prefix S (take c N) (drop c N) k (n ∷ ns) (record { adds = a; to = node i }) g (rw take-append-drop w) (omega (arith, length-take-le c N hc), here) (rw take-append-drop m));
        }
      where
        here : k ≤ (at (take c N) i).feature
        here = let e : (at (take c N) i).feature ≡ (at N i).feature = ap (λ (x : Node K). x.feature) (get_or-take c N i empty h) in omega arith
    visit_sound a i m (yes p) (no h) =
        told_close (AllWalked N (suc k) ns (map (up a) cs) (parts 0 n g) c) (Walked N k (n ∷ ns) (record { adds = a; to = node i }) g c) i (scans f cs c)
        (subst (Told (AllWalked N (suc k) ns (map (up a) cs) (parts 0 n g) c)) (scans_map f (up a) (λ b. refl) cs c)
        (scans_sound S (suc k) ns N f ih (map (up a) cs) (parts 0 n g)
        (means_of N (suc k) ns (map (up a) cs) 0 n g (length-map cs (up a) ∙ l)
        (λ v hv. rw zero-add (subst (λ (b : Branch K). Mean N (suc k) ns b (held v g)) (sym (get_or_map_in (up a) blank blank cs v (omega (arith, l)))) (mean_here S w m p v hv)))) c hc))
        (λ q. record {
          up = omega (arith, q.ups);
          top = m.ok.0;
          built =
              build_cons k n ns g (take c N)
              ∙ ap (λ (t : List (Branch K) × List (Node K)). make k t.0 t.1) q.builts
              ∙ make_next S N w a k i m.ok.0 p (let z = pos.0 in omega (arith, l));
        })
      where
        cs : List (Branch K)
        cs = (at N i).branches

        l : length cs ≡ n
        l = (w.fits i m.ok.0).full ∙ ap (λ (j : ℕ). get_or S j 0) p ∙ (drop_head S k n ns rest).1

    step_sound : (a : K.Off) (t : Target K) → Mean N k (n ∷ ns) (record { adds = a; to = t }) g → Told (Walked N k (n ∷ ns) (record { adds = a; to = t }) g c) (step N k f t c)
    unfolding step
    step_sound a (leaf p) m = wait_sound (record { adds = a; to = leaf p }) m tt
    step_sound a (node i) m = visit_sound a i m (ℕ_discrete (at N i).feature k) (dec_lt i c)

  pub scan_nil : (N : List (Node K)) (k : ℕ) (b : Target K) (c : ℕ) → scan N k [] b c ≡ some c
  unfolding scan
  scan_nil N k b c = refl

  pub scan_cons : (N : List (Node K)) (k n : ℕ) (ns : List ℕ) (b : Target K) (c : ℕ) → scan N k (n ∷ ns) b c ≡ step N k (scan N (suc k) ns) b c
  unfolding scan
  scan_cons N k n ns b c = refl

  -- the walk that answers d from c has built: nodes c to d are those that `build` appends to the first c
  pub scan_sound : (S : List ℕ) (k : ℕ) (ns : List ℕ) → drop k S ≡ ns → Pos ns → (N : List (Node K)) → WellFormed S N → (b : Branch K) (g : Fun K) → Mean N k ns b g → (c : ℕ) → c ≤ length N →
      Told (Walked N k ns b g c) (scan N k ns b.to c)
  scan_sound S k [] rest pos N w b g m c hc =
      rw scan_nil (record { up = omega arith; top = hc; built = canonical S k [] rest pos (take c N) (wf_take S N c w) b g (end_mean b.adds b.to m) })
    where
      end_mean : (a : K.Off) (t : Target K) → Mean N k [] (record { adds = a; to = t }) g → Mean (take c N) k [] (record { adds = a; to = t }) g
      end_mean a (leaf p) q = record { ok = tt; says = ends }
        where
          ends : (s : List ℕ) → Valid [] s → value (take c N) k (record { adds = a; to = leaf p }) s ≡ g s
          ends [] x = value_end (take c N) k (record { adds = a; to = leaf p }) ∙ sym (value_end N k (record { adds = a; to = leaf p })) ∙ q.says [] tt
          ends (v ∷ s) x = absurd x
      end_mean a (node i) q =
          absurd (let f : (at N i).feature < length S = (w.fits i q.ok.0).known in
          let l : length (drop k S) ≡ 0 = ap length rest in omega (arith, length-drop k S, q.ok.1))
  scan_sound S k (n ∷ ns) rest pos N w b g m c hc =
      rw scan_cons
      (step_sound S k n ns rest pos N w (scan N (suc k) ns) (scan_sound S (suc k) ns (drop_head S k n ns rest).2 pos.1 N w) g c hc b.adds b.to m)
