-- The entry list: ascending by code, and what stands in it.
use Prim.Native.Nat.{ℕ, zero, suc, ◌+◌, ◌*◌, ◌≤◌, ◌<◌}
use mathlib.Core.Path.{◌≡◌, refl, sym, ap, ◌∙◌, subst, subst₂}
use mathlib.Core.Logic.{◌↔◌, ◌⊎◌, inl, inr, ⊎_elim}
use mathlib.Core.List.{List, [], ◌∷◌, ◌++◌, append-nil, append_assoc}
use mathlib.Core.Bool.{Bool, true, false, cond}
use native.Mathlib.Nat.{le_trans, eq-or-lt_of_le, suc-mul, mul-le-mul_right}
use native.Mathlib.Omega.{arith}
use lib.ListN.{length}
use Rattle.rules.specs.Graph.{Graph}
use Rattle.rules.specs.Published.{Symbols, end, symbol}
use Rattle.rules.specs.Lists.{joins_class, code_from, entries_for, each_up_to, entries_behind, entries_up_to}
use Rattle.rules.proofs.Laws.Tests.{order}

-- entries that ascend strictly by code, then class, where classes are below m: the key of (x,c) is x·m+c, and the keys lie from a up to but without b
pub data Rising (m : ℕ) : ℕ → ℕ → List ℕ → Type 0 where
  none : {a b : ℕ} → a ≤ b → Rising m a b []
  more : {a b x c : ℕ} {l : List ℕ} → c < m → a ≤ x * m + c → x * m + c < b → Rising m (suc (x * m + c)) b l → Rising m a b (x ∷ (c ∷ l))

pub rising_low : {m a b : ℕ} (o : ℕ) {l : List ℕ} → o ≤ a → Rising m a b l → Rising m o b l
rising_low o h (none k) = none (le_trans h k)
rising_low o h (more s k t r) = more s (le_trans h k) t r

pub rising_high : {m a b : ℕ} (d : ℕ) {l : List ℕ} → b ≤ d → Rising m a b l → Rising m a d l
rising_high d h (none k) = none (le_trans k h)
rising_high d h (more s k t r) = more s k (le_trans t h) (rising_high d h r)

pub rising_one : (m x c a b : ℕ) → c < m → a ≤ x * m + c → x * m + c < b → Rising m a b (x ∷ (c ∷ []))
rising_one m x c a b h k t = more h k t (none t)

le_suc : (a b : ℕ) → a ≤ b → a ≤ suc b
le_suc a b h = omega arith

pub rising_append : {m a b d : ℕ} {l l' : List ℕ} → Rising m a b l → Rising m b d l' → b ≤ d → Rising m a d (l ++ l')
rising_append (none k) s h = rising_low _ k s
rising_append (more o k t r) s h = more o k (le_trans t h) (rising_append r s h)

-- the entry (x,c) is there
pub data Entered (x c : ℕ) : List ℕ → Type 0 where
  here : {y d : ℕ} {l : List ℕ} → x ≡ y → c ≡ d → Entered x c (y ∷ (d ∷ l))
  there : {y d : ℕ} {l : List ℕ} → Entered x c l → Entered x c (y ∷ (d ∷ l))

pub entered_nil : {x c : ℕ} → Entered x c [] → ⊥
entered_nil h = elim h [ ]

pub entered_cons : {x c y d : ℕ} {l : List ℕ} → Entered x c (y ∷ (d ∷ l)) → ((x ≡ y) × (c ≡ d)) ⊎ Entered x c l
entered_cons (here p q) = inl (p, q)
entered_cons (there m) = inr m

pub entered_left : {x c : ℕ} {l : List ℕ} (l' : List ℕ) → Entered x c l → Entered x c (l ++ l')
entered_left l' (here p q) = here p q
entered_left l' (there m) = there (entered_left l' m)

pub entered_right : {x c m a b : ℕ} {l l' : List ℕ} → Rising m a b l → Entered x c l' → Entered x c (l ++ l')
entered_right (none k) e = e
entered_right (more o k h r) e = there (entered_right r e)

pub entered_cases : {x c m a b : ℕ} {l : List ℕ} (l' : List ℕ) → Rising m a b l → Entered x c (l ++ l') → Entered x c l ⊎ Entered x c l'
entered_cases l' (none k) e = inr e
entered_cases {x} {c} l' (more {l = l} o k h r) e =
    ⊎_elim
    (λ q. inl (here q.0 q.1))
    (λ (n : Entered x c (l ++ l')). ⊎_elim (λ n'. inl (there n')) (λ n'. inr n') (entered_cases l' r n))
    (entered_cons e)

-- the least code of j symbols behind the code a
pub least : ℕ → ℕ → ℕ
least zero a = a
least (suc j) a = least j (a * 17 + 1)

pub least_mono : (j a b : ℕ) → a ≤ b → least j a ≤ least j b
unfolding least
least_mono zero a b h = h
least_mono (suc j) a b h = least_mono j (a * 17 + 1) (b * 17 + 1) (omega arith)

least_next : (j : ℕ) → least (suc j) 0 ≡ least j 1
unfolding least
least_next j = refl

least_longer : (i j : ℕ) → i ≤ j → least i 0 ≤ least j 0
least_longer i j h = native.Mathlib.Decide.le_ind (λ k. least i 0 ≤ least k 0) (omega arith)
    (λ k l ih. omega (arith, ih, least_next k, least_mono k 0 1 (omega arith))) j h

module _ (l : ℕ) (few : l ≤ 8) where
  pub code_range : (ss : List ℕ) (a : ℕ) → Symbols l ss → (least (length ss) a ≤ code_from a ss) × (code_from a ss < least (length ss) (suc a))
  unfolding code_from least
  code_range [] a y = (omega arith, omega arith)
  code_range (s ∷ ss) a (symbol p h y) =
      let r = code_range ss (a * 17 + s) y in (
        omega (arith, r.0, least_mono (length ss) (a * 17 + 1) (a * 17 + s) (omega arith)),
        omega (arith, r.1, least_mono (length ss) (suc (a * 17 + s)) (suc a * 17 + 1) (omega (arith, native.Mathlib.Nat.suc-mul a 17))),
      )

  pub code_inj : (ss zs : List ℕ) (a b : ℕ) → Symbols l ss → Symbols l zs → length ss ≡ length zs → code_from a ss ≡ code_from b zs → (a ≡ b) × (ss ≡ zs)
  unfolding code_from
  code_inj [] [] a b y z n e = (e, refl)
  code_inj [] (z ∷ zs) a b y w n e = absurd (omega arith)
  code_inj (s ∷ ss) [] a b y w n e = absurd (omega arith)
  code_inj (s ∷ ss) (z ∷ zs) a b (symbol p h y) (symbol q k w) n e =
      let r = code_inj ss zs (a * 17 + s) (b * 17 + z) y w (omega arith) e in
      let ab : a ≡ b = omega (arith, r.0) in
      let sz : s ≡ z = omega (arith, r.0) in
      (ab, ap (λ (j : ℕ). j ∷ ss) sz ∙ ap {B = List ℕ} (λ r. z ∷ r) r.1)

  -- no two sequences have one code
  pub code_once : (ss zs : List ℕ) → Symbols l ss → Symbols l zs → code_from 0 ss ≡ code_from 0 zs → ss ≡ zs
  code_once ss zs y w e =
      let rs = code_range ss 0 y in
      let rz = code_range zs 0 w in
      ⊎_elim
      (λ (k : length ss < length zs). absurd (omega (arith, rs.1, rz.0, least_next (length ss), least_longer (suc (length ss)) (length zs) k)))
      (λ (k : length zs ≤ length ss). ⊎_elim
      (λ (q : length zs ≡ length ss). (code_inj ss zs 0 0 y w (sym q) e).1)
      (λ (k' : length zs < length ss). absurd (omega (arith, rz.1, rs.0, least_next (length zs), least_longer (suc (length zs)) (length ss) k')))
      (eq-or-lt_of_le k))
      (order (length ss) (length zs))

pub code_snoc : (a : ℕ) (ss : List ℕ) (s : ℕ) → code_from a (ss ++ (s ∷ [])) ≡ code_from a ss * 17 + s
unfolding code_from
code_snoc a [] s = refl
code_snoc a (z ∷ ss) s = code_snoc (a * 17 + z) ss s

module _ (g : Graph) (t : List ℕ) where
  -- the entry, if there is one, of class c
  abbrev pub entry_if : List ℕ → ℕ → List ℕ
  entry_if ss c = cond (joins_class g t ss c) (code_from 0 ss ∷ (c ∷ [])) []

  -- of one sequence: its keys are those of its code and the classes 1 to n
  pub of_rising : (m : ℕ) (ss : List ℕ) (n : ℕ) → n < m → Rising m (code_from 0 ss * m) (suc (code_from 0 ss * m + n)) (entries_for g t ss n)
  unfolding entries_for
  of_rising m ss zero h = none (le_suc (code_from 0 ss * m) (code_from 0 ss * m + 0) (omega arith))
  of_rising m ss (suc n) h = rising_append (of_rising m ss n (omega arith)) (one (joins_class g t ss (suc n))) (le_suc (suc (code_from 0 ss * m + n)) (code_from 0 ss * m + suc n) (omega arith))
    where
      one : (b : Bool) → Rising m (suc (code_from 0 ss * m + n)) (suc (code_from 0 ss * m + suc n)) (cond b (code_from 0 ss ∷ (suc n ∷ [])) [])
      one true = rising_one m (code_from 0 ss) (suc n) (suc (code_from 0 ss * m + n)) (suc (code_from 0 ss * m + suc n)) h (omega arith) (omega arith)
      one false = none (le_suc (suc (code_from 0 ss * m + n)) (code_from 0 ss * m + suc n) (omega arith))

  -- what is said of an entry of the sequence ss
  pub record Entry (n : ℕ) (x c : ℕ) (ss : List ℕ) : Type 0 where
    pub coded : x ≡ code_from 0 ss
    pub some : 0 < c
    pub known : c ≤ n
    pub joined : joins_class g t ss c ≡ true

  pub of_find : (ss : List ℕ) (n x c : ℕ) → Entered x c (entries_for g t ss n) → Entry n x c ss
  unfolding entries_for
  of_find ss zero x c m = absurd (entered_nil m)
  of_find ss (suc n) x c m =
      ⊎_elim
      (λ (a : Entered x c (entries_for g t ss n)).
      let r = of_find ss n x c a in
      record { coded = r.coded; some = r.some; known = omega (arith, r.known); joined = r.joined })
      (λ (a : Entered x c (entry_if ss (suc n))). one (joins_class g t ss (suc n)) refl a)
      (entered_cases (entry_if ss (suc n)) (of_rising (suc n) ss n (omega arith)) m)
    where
      one : (b : Bool) → joins_class g t ss (suc n) ≡ b → Entered x c (cond b (code_from 0 ss ∷ (suc n ∷ [])) []) → Entry (suc n) x c ss
      one true e a =
          ⊎_elim
          (λ (q : (x ≡ code_from 0 ss) × (c ≡ suc n)).
          record { coded = q.0; some = omega arith; known = omega arith; joined = ap (joins_class g t ss) q.1 ∙ e })
          (λ (z : Entered x c []). absurd (entered_nil z))
          (entered_cons a)
      one false e a = absurd (entered_nil a)

  pub of_here : (ss : List ℕ) (n c : ℕ) → 0 < c → c ≤ n → joins_class g t ss c ≡ true → Entered (code_from 0 ss) c (entries_for g t ss n)
  unfolding entries_for
  of_here ss zero c p h e = absurd (omega arith)
  of_here ss (suc n) c p h e =
      ⊎_elim
      (λ (q : c ≡ suc n). entered_right (of_rising (suc n) ss n (omega arith)) (rw (sym (ap (joins_class g t ss) q) ∙ e) (here refl q)))
      (λ (l : c < suc n). entered_left (entry_if ss (suc n)) (of_here ss n c p (omega arith) e))
      (eq-or-lt_of_le h)

  module _ (few : g.labels ≤ 8) (n : ℕ) where
    -- the least key of a code
    abbrev key : ℕ → ℕ
    key x = x * suc n

    key_mono : (x y : ℕ) → x ≤ y → key x ≤ key y
    key_mono x y h = mul-le-mul_right {m = x} {n = y} (suc n) h

    -- of all sequences of j symbols behind ss
    each_rising : (f : ℕ → List ℕ) (j b k : ℕ) → ((s : ℕ) → Rising (suc n) (key (least j (b + s))) (key (least j (suc (b + s)))) (f s))
        → Rising (suc n) (key (least j (b + 1))) (key (least j (b + 1 + k))) (each_up_to k f)
    unfolding each_up_to
    each_rising f j b zero h = none (key_mono (least j (b + 1)) (least j (b + 1 + 0)) (least_mono j (b + 1) (b + 1 + 0) (omega arith)))
    each_rising f j b (suc k) h =
        rising_append (each_rising f j b k h)
        (subst₂ (λ (x y : ℕ). Rising (suc n) (key (least j x)) (key (least j y)) (f (suc k))) (omega arith) (omega arith) (h (suc k)))
        (key_mono (least j (b + 1 + k)) (least j (b + 1 + suc k)) (least_mono j (b + 1 + k) (b + 1 + suc k) (omega arith)))

    pub at_rising : (j : ℕ) (ss : List ℕ) → Rising (suc n) (key (least j (code_from 0 ss))) (key (least j (suc (code_from 0 ss)))) (entries_behind g t n j ss)
    unfolding entries_behind least
    at_rising zero ss = rising_high (key (suc (code_from 0 ss))) (omega (arith, suc-mul (code_from 0 ss) (suc n))) (of_rising (suc n) ss n (omega arith))
    at_rising (suc j) ss =
        let a = code_from 0 ss in
        rising_high (key (least j (suc a * 17 + 1)))
        (key_mono (least j (a * 17 + 1 + 2 * g.labels)) (least j (suc a * 17 + 1)) (least_mono j (a * 17 + 1 + 2 * g.labels) (suc a * 17 + 1) (omega (arith, suc-mul a 17))))
        (each_rising (λ s. entries_behind g t n j (ss ++ (s ∷ []))) j (a * 17) (2 * g.labels)
        (λ s. subst (λ (x : ℕ). Rising (suc n) (key (least j x)) (key (least j (suc x))) (entries_behind g t n j (ss ++ (s ∷ [])))) (code_snoc 0 ss s) (at_rising j (ss ++ (s ∷ [])))))

    -- behind ss: one symbol of the first k, and then j more
    abbrev behind : ℕ → List ℕ → ℕ → List ℕ
    behind j ss k = each_up_to k (λ s. entries_behind g t n j (ss ++ (s ∷ [])))

    behind_rising : (j : ℕ) (ss : List ℕ) (k : ℕ) → Rising (suc n) (key (least j (code_from 0 ss * 17 + 1))) (key (least j (code_from 0 ss * 17 + 1 + k))) (behind j ss k)
    behind_rising j ss k =
        each_rising (λ s. entries_behind g t n j (ss ++ (s ∷ []))) j (code_from 0 ss * 17) k
        (λ s. subst (λ (x : ℕ). Rising (suc n) (key (least j x)) (key (least j (suc x))) (entries_behind g t n j (ss ++ (s ∷ [])))) (code_snoc 0 ss s) (at_rising j (ss ++ (s ∷ []))))

    -- an entry of some sequence of j symbols behind ss
    pub record Behind (j : ℕ) (ss : List ℕ) (x c : ℕ) : Type 0 where
      pub tail : List ℕ
      pub symbols : Symbols g.labels tail
      pub as_long : length tail ≡ j
      pub entry : Entry n x c (ss ++ tail)

    longer : (j : ℕ) (ss : List ℕ) (x c s : ℕ) → 0 < s → s ≤ 2 * g.labels → Behind j (ss ++ (s ∷ [])) x c → Behind (suc j) ss x c
    longer j ss x c s p h r =
        record {
          tail = s ∷ r.tail;
          symbols = symbol p h r.symbols;
          as_long = ap suc r.as_long;
          entry = subst (λ (z : List ℕ). Entry n x c z) (append_assoc ss (s ∷ []) r.tail) r.entry;
        }

    behind_find : (j : ℕ) (ss : List ℕ) (x c k : ℕ) → ((s : ℕ) → Entered x c (entries_behind g t n j (ss ++ (s ∷ []))) → Behind j (ss ++ (s ∷ [])) x c)
        → k ≤ 2 * g.labels → Entered x c (behind j ss k) → Behind (suc j) ss x c
    unfolding each_up_to
    behind_find j ss x c zero ih h m = absurd (entered_nil m)
    behind_find j ss x c (suc k) ih h m =
        ⊎_elim
        (λ (a : Entered x c (behind j ss k)). behind_find j ss x c k ih (omega arith) a)
        (λ (a : Entered x c (entries_behind g t n j (ss ++ (suc k ∷ [])))). longer j ss x c (suc k) (omega arith) h (ih (suc k) a))
        (entered_cases (entries_behind g t n j (ss ++ (suc k ∷ []))) (behind_rising j ss k) m)

    pub at_find : (j : ℕ) (ss : List ℕ) (x c : ℕ) → Entered x c (entries_behind g t n j ss) → Behind j ss x c
    unfolding entries_behind
    at_find zero ss x c m = record { tail = []; symbols = end; as_long = refl; entry = rw append-nil (of_find ss n x c m) }
    at_find (suc j) ss x c m = behind_find j ss x c (2 * g.labels) (λ s. at_find j (ss ++ (s ∷ [])) x c) (omega arith) m

    behind_here : (j : ℕ) (ss : List ℕ) (x c k s : ℕ) → 0 < s → s ≤ k → Entered x c (entries_behind g t n j (ss ++ (s ∷ []))) → Entered x c (behind j ss k)
    unfolding each_up_to
    behind_here j ss x c zero s p h m = absurd (omega arith)
    behind_here j ss x c (suc k) s p h m =
        ⊎_elim
        (λ (q : s ≡ suc k). entered_right (behind_rising j ss k) (subst (λ (i : ℕ). Entered x c (entries_behind g t n j (ss ++ (i ∷ [])))) q m))
        (λ (l : s < suc k). entered_left (entries_behind g t n j (ss ++ (suc k ∷ []))) (behind_here j ss x c k s p (omega arith) m))
        (eq-or-lt_of_le h)

    pub at_here : (j : ℕ) (ss tail : List ℕ) (c : ℕ) → Symbols g.labels tail → length tail ≡ j → 0 < c → c ≤ n → joins_class g t (ss ++ tail) c ≡ true
        → Entered (code_from 0 (ss ++ tail)) c (entries_behind g t n j ss)
    unfolding entries_behind
    at_here zero ss [] c y e p h b = rw append-nil (of_here ss n c p h (rw append-nil at b))
    at_here zero ss (s ∷ tail) c y e p h b = absurd (omega arith)
    at_here (suc j) ss [] c y e p h b = absurd (omega arith)
    at_here (suc j) ss (s ∷ tail) c (symbol q k y) e p h b =
        let aa = append_assoc ss (s ∷ []) tail in
        behind_here j ss (code_from 0 (ss ++ (s ∷ tail))) c (2 * g.labels) s q k
        (subst (λ (z : List ℕ). Entered (code_from 0 z) c (entries_behind g t n j (ss ++ (s ∷ [])))) aa
        (at_here j (ss ++ (s ∷ [])) tail c y (omega arith) p h (subst (λ (z : List ℕ). joins_class g t z c ≡ true) (sym aa) b)))

    -- of all sequences of at most k symbols
    pub up_rising : (k : ℕ) → Rising (suc n) 0 (key (least k 1)) (entries_up_to g t n k)
    unfolding entries_up_to least code_from
    up_rising zero = rising_low 0 (omega arith) (at_rising zero [])
    up_rising (suc k) = rising_append (up_rising k) (at_rising (suc k) []) (key_mono (least k 1) (least k (1 * 17 + 1)) (least_mono k 1 (1 * 17 + 1) (omega arith)))

    pub up_find : (k : ℕ) (x c : ℕ) → Entered x c (entries_up_to g t n k) → (ss : List ℕ) × Symbols g.labels ss × (length ss ≤ k) × Entry n x c ss
    unfolding entries_up_to
    up_find zero x c m = let r = at_find zero [] x c m in (r.tail, r.symbols, omega (arith, r.as_long), r.entry)
    up_find (suc k) x c m =
        ⊎_elim
        (λ (a : Entered x c (entries_up_to g t n k)). let r = up_find k x c a in (r.0, r.1, omega (arith, r.2), r.3))
        (λ (a : Entered x c (entries_behind g t n (suc k) [])). let r = at_find (suc k) [] x c a in (r.tail, r.symbols, omega (arith, r.as_long), r.entry))
        (entered_cases (entries_behind g t n (suc k) []) (up_rising k) m)

    pub up_here : (k : ℕ) (ss : List ℕ) (c : ℕ) → Symbols g.labels ss → length ss ≤ k → 0 < c → c ≤ n → joins_class g t ss c ≡ true
        → Entered (code_from 0 ss) c (entries_up_to g t n k)
    unfolding entries_up_to
    up_here zero ss c y e p h b = at_here zero [] ss c y (omega arith) p h b
    up_here (suc k) ss c y e p h b =
        ⊎_elim
        (λ (q : length ss ≡ suc k). entered_right (up_rising k) (at_here (suc k) [] ss c y q p h b))
        (λ (l : length ss < suc k). entered_left (entries_behind g t n (suc k) []) (up_here k ss c y (omega arith) p h b))
        (eq-or-lt_of_le e)

    -- class c is entered under the code of a sequence of at most k symbols exactly if the sequence joins its first pair
    pub entered_iff : (k : ℕ) (ss : List ℕ) (c : ℕ) → Symbols g.labels ss → length ss ≤ k
        → Entered (code_from 0 ss) c (entries_up_to g t n k) ↔ ((0 < c) × (c ≤ n) × (joins_class g t ss c ≡ true))
    entered_iff k ss c y h = (
      λ m. let r = up_find k (code_from 0 ss) c m in
          let e = code_once g.labels few ss r.0 y r.1 r.3.coded in
          (r.3.some, r.3.known, subst (λ (z : List ℕ). joins_class g t z c ≡ true) (sym e) r.3.joined),
      λ r. up_here k ss c y h r.0 r.1 r.2,
    )
