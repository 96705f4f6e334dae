-- What is heard together is in order, and nothing of any voice is lost in it. Assumes nothing.
use Rattle.std.proofs.Common.{◌≡◌, ℕ, zero, suc, ◌+◌, ◌<◌, ◌≤◌, Bool, true, false, ◌&&◌, ◌||◌, eqb, ltb, leb, ◌⊎◌, List, [], ◌∷◌, length, refl, ap, ◌∙◌, inl, inr, arith}
use Rattle.std.proofs.lemmas.Bool.{and_from, cases_lt, or_left, or_right, leb-true, leb-false, le-leb, lt-ltb, eq-eqb, ne_eqb}
use Rattle.score.specs.Music.{pick, Event, note, silence, tone, Heard, heard}
use Rattle.score.specs.Calls.{begins, merged, together, Score, voice}
use Rattle.score.specs.Promise.{in_order, TogetherInOrder, of_voice, begun_in, NothingLost}
use Rattle.score.proofs.Picks.{pick_true, pick_false, pick_both, eqb_same}

-- a sound with its voice
abbrev pub Voiced : Type 0
Voiced = ℕ × Heard

-- what is so of the voice of each sound
unfoldable pub Voices : (ℕ → Type 0) → List Voiced → Type 0
Voices P [] = Unit {0}
Voices P (x ∷ xs) = P x.0 × Voices P xs

pub voices_all : (P Q : ℕ → Type 0) (xs : List Voiced) → ((v : ℕ) → P v → Q v) → Voices P xs → Voices Q xs
unfolding Voices
voices_all P Q [] f h = tt
voices_all P Q (x ∷ xs) f h = (f x.0 h.0, voices_all P Q xs f h.1)

pub voices_begins : (P : ℕ → Type 0) (v a b : ℕ) (hs : List Heard) → P v → Voices P (begins v a b hs)
unfolding begins Voices
voices_begins P v a b [] p = tt
voices_begins P v a b (h ∷ hs) p =
    pick_both (Voices P) (leb a h.start && ltb h.start b) _ _ (λ _. (p, voices_begins P v a b hs p)) (λ _. voices_begins P v a b hs p)

pub voices_merged : (P : ℕ → Type 0) (n : ℕ) (xs ys : List Voiced) → length xs + length ys ≤ n → Voices P xs → Voices P ys → Voices P (merged n xs ys)
unfolding merged Voices
voices_merged P zero [] [] l p q = q
voices_merged P zero (x ∷ xs) [] l p q = absurd (omega arith)
voices_merged P zero xs (y ∷ ys) l p q = absurd (omega arith)
voices_merged P (suc n) [] ys l p q = q
voices_merged P (suc n) (x ∷ xs) [] l p q = p
voices_merged P (suc n) (x ∷ xs) (y ∷ ys) l p q =
    pick_both (Voices P) (leb x.1.start y.1.start) (x ∷ merged n xs (y ∷ ys)) (y ∷ merged n (x ∷ xs) ys)
    (λ _. (p.0, voices_merged P n xs (y ∷ ys) (omega arith) p.1 q))
    (λ _. (q.0, voices_merged P n (x ∷ xs) ys (omega arith) p q.1))

-- the voices from number v on are heard with such numbers
pub voices_together : (s : Score) (v a b : ℕ) → Voices (λ u. v ≤ u) (together s v a b)
unfolding together Voices
voices_together [] v a b = tt
voices_together (e ∷ es) v a b =
    voices_merged (λ u. v ≤ u) _ (begins v a b (heard e 0)) (together es (suc v) a b) (omega arith) (voices_begins (λ u. v ≤ u) v a b (heard e 0) (omega arith))
    (voices_all (λ u. suc v ≤ u) (λ u. v ≤ u) (together es (suc v) a b) (λ u h. omega arith) (voices_together es (suc v) a b))

-- one sound before another: earlier, or at the same time in a voice that is not later
abbrev pub Before : Voiced → Voiced → Type 0
Before x y = (x.1.start < y.1.start) ⊎ ((x.1.start ≡ y.1.start) × (x.0 ≤ y.0))

before_from : (x y : Voiced) → x.1.start ≤ y.1.start → x.0 ≤ y.0 → Before x y
before_from x y h k = go (cases_lt x.1.start y.1.start)
  where
    go : (x.1.start < y.1.start) ⊎ (y.1.start ≤ x.1.start) → Before x y
    go (inl m) = inl m
    go (inr m) = inr (omega arith, k)

before_test : (x y : Voiced) → Before x y → (ltb x.1.start y.1.start || (eqb x.1.start y.1.start && leb x.0 y.0)) ≡ true
before_test x y (inl h) = or_left _ _ (lt-ltb _ _ h)
before_test x y (inr h) = or_right (ltb x.1.start y.1.start) _ (and_from _ _ (eq-eqb _ _ h.0) (le-leb _ _ h.1))

-- sounds in order, all of them behind x
unfoldable pub Sorted : Voiced → List Voiced → Type 0
Sorted x [] = Unit {0}
Sorted x (y ∷ ys) = Before x y × Sorted y ys

sorted_in_order : (x : Voiced) (xs : List Voiced) → Sorted x xs → in_order (x ∷ xs) ≡ true
unfolding in_order Sorted
sorted_in_order x [] h = refl
sorted_in_order x (y ∷ ys) h = and_from _ _ (before_test x y h.0) (sorted_in_order y ys h.1)

pub sorted_merged : (n v : ℕ) (x : Voiced) (xs ys : List Voiced) → length xs + length ys ≤ n → Voices (λ u. u ≤ v) xs → Voices (λ u. v ≤ u) ys → Sorted x xs → Sorted x ys → Sorted x (merged n xs ys)
unfolding merged Sorted Voices
sorted_merged zero v x [] [] l a b p q = q
sorted_merged zero v x (y ∷ xs) [] l a b p q = absurd (omega arith)
sorted_merged zero v x xs (z ∷ ys) l a b p q = absurd (omega arith)
sorted_merged (suc n) v x [] ys l a b p q = q
sorted_merged (suc n) v x (y ∷ xs) [] l a b p q = p
sorted_merged (suc n) v x (y ∷ xs) (z ∷ ys) l a b p q =
    pick_both (Sorted x) (leb y.1.start z.1.start) (y ∷ merged n xs (z ∷ ys)) (z ∷ merged n (y ∷ xs) ys)
    (λ e. (p.0, sorted_merged n v y xs (z ∷ ys) (omega arith) a.1 b p.1 (before_from y z (leb-true _ _ e) (omega arith), q.1)))
    (λ e. (q.0, sorted_merged n v z (y ∷ xs) ys (omega arith) a b.1 (inl (leb-false _ _ e), p.1) q.1))

pub sorted_begins : (v a b : ℕ) (es : List Event) (t : ℕ) (x : Voiced) → x.1.start ≤ t → x.0 ≤ v → Sorted x (begins v a b (heard es t))
unfolding begins heard Sorted
sorted_begins v a b [] t x h k = tt
sorted_begins v a b (silence d ∷ es) t x h k = sorted_begins v a b es (t + d) x (omega arith) k
sorted_begins v a b (note p q d ∷ es) t x h k =
    pick_both (Sorted x) (leb a t && ltb t b) _ (begins v a b (heard es (t + d)))
    (λ _. (before_from x (v, record { start = t; long = d; high = tone p q }) h k, sorted_begins v a b es (t + d) _ later (omega arith)))
    (λ _. sorted_begins v a b es (t + d) x (omega arith) k)
  where
    later : t ≤ t + d
    later = omega arith

sorted_together : (s : Score) (v a b : ℕ) (x : Voiced) → x.1.start ≤ 0 → x.0 ≤ v → Sorted x (together s v a b)
unfolding together Sorted
sorted_together [] v a b x h k = tt
sorted_together (e ∷ es) v a b x h k =
    sorted_merged _ v x (begins v a b (heard e 0)) (together es (suc v) a b) (omega arith) (voices_begins (λ u. u ≤ v) v a b (heard e 0) (omega arith))
    (voices_all (λ u. suc v ≤ u) (λ u. v ≤ u) (together es (suc v) a b) (λ u h. omega arith) (voices_together es (suc v) a b))
    (sorted_begins v a b e 0 x h k) (sorted_together es (suc v) a b x h (omega arith))

in_order_behind : (x : Voiced) (xs : List Voiced) → Sorted x xs → in_order xs ≡ true
unfolding Sorted in_order
in_order_behind x [] h = refl
in_order_behind x (y ∷ ys) h = sorted_in_order y ys h.1

pub together_in_order : TogetherInOrder
together_in_order s a b = in_order_behind first (together s 0 a b) (sorted_together s 0 a b first (omega arith) (omega arith))
  where
    first : Voiced
    first = (0, record { start = 0; long = 0; high = 0 })

-- of sounds of other voices, nothing is of this one, and merged with them it is as it was
other_none : (u : ℕ) (xs : List Voiced) → Voices (λ v. v ≡ u → ⊥) xs → of_voice u xs ≡ []
unfolding Voices of_voice
other_none u [] h = refl
other_none u (x ∷ xs) h = pick_false (eqb x.0 u) _ _ (ne_eqb _ _ h.0) ∙ other_none u xs h.1

other_behind : (n u : ℕ) (xs ys : List Voiced) → length xs + length ys ≤ n → Voices (λ v. v ≡ u → ⊥) ys → of_voice u (merged n xs ys) ≡ of_voice u xs
unfolding merged Voices of_voice
other_behind zero u [] [] l h = refl
other_behind zero u (x ∷ xs) [] l h = absurd (omega arith)
other_behind zero u xs (y ∷ ys) l h = absurd (omega arith)
other_behind (suc n) u [] ys l h = other_none u ys h
other_behind (suc n) u (x ∷ xs) [] l h = refl
other_behind (suc n) u (x ∷ xs) (y ∷ ys) l h =
    pick_both (λ (m : List Voiced). of_voice u m ≡ of_voice u (x ∷ xs)) (leb x.1.start y.1.start) (x ∷ merged n xs (y ∷ ys)) (y ∷ merged n (x ∷ xs) ys)
    (λ _. ap (λ (r : List Heard). pick (eqb x.0 u) (x.1 ∷ r) r) (other_behind n u xs (y ∷ ys) (omega arith) h))
    (λ _. pick_false (eqb y.0 u) _ _ (ne_eqb _ _ h.0) ∙ other_behind n u (x ∷ xs) ys (omega arith) h.1)

other_before : (n u : ℕ) (xs ys : List Voiced) → length xs + length ys ≤ n → Voices (λ v. v ≡ u → ⊥) xs → of_voice u (merged n xs ys) ≡ of_voice u ys
unfolding merged Voices of_voice
other_before zero u [] [] l h = refl
other_before zero u (x ∷ xs) [] l h = absurd (omega arith)
other_before zero u xs (y ∷ ys) l h = absurd (omega arith)
other_before (suc n) u [] ys l h = refl
other_before (suc n) u (x ∷ xs) [] l h = other_none u (x ∷ xs) h
other_before (suc n) u (x ∷ xs) (y ∷ ys) l h =
    pick_both (λ (m : List Voiced). of_voice u m ≡ of_voice u (y ∷ ys)) (leb x.1.start y.1.start) (x ∷ merged n xs (y ∷ ys)) (y ∷ merged n (x ∷ xs) ys)
    (λ _. pick_false (eqb x.0 u) _ _ (ne_eqb _ _ h.0) ∙ other_before n u xs (y ∷ ys) (omega arith) h.1)
    (λ _. ap (λ (r : List Heard). pick (eqb y.0 u) (y.1 ∷ r) r) (other_before n u (x ∷ xs) ys (omega arith) h))

own_begins : (v a b : ℕ) (hs : List Heard) → of_voice v (begins v a b hs) ≡ begun_in a b hs
unfolding of_voice begins begun_in
own_begins v a b [] = refl
own_begins v a b (h ∷ hs) = go (leb a h.start && ltb h.start b) (own_begins v a b hs)
  where
    go : (c : Bool) → of_voice v (begins v a b hs) ≡ begun_in a b hs → of_voice v (pick c ((v, h) ∷ begins v a b hs) (begins v a b hs)) ≡ pick c (h ∷ begun_in a b hs) (begun_in a b hs)
    go true ih = pick_true (eqb v v) _ _ (eqb_same v) ∙ ap (λ (r : List Heard). h ∷ r) ih
    go false ih = ih

-- the j-th of the voices from number v on
of_each : (s : Score) (v j a b : ℕ) → of_voice (v + j) (together s v a b) ≡ begun_in a b (heard (voice s j) 0)
unfolding together of_voice heard begun_in
of_each [] v j a b = refl
of_each (e ∷ es) v zero a b =
    ap (λ (u : ℕ). of_voice u (together (e ∷ es) v a b)) here
    ∙ other_behind _ v (begins v a b (heard e 0)) (together es (suc v) a b) (omega arith)
    (voices_all (λ u. suc v ≤ u) (λ u. u ≡ v → ⊥) (together es (suc v) a b) (λ u h z. omega arith) (voices_together es (suc v) a b))
    ∙ own_begins v a b (heard e 0)
  where
    here : v + 0 ≡ v
    here = omega arith
of_each (e ∷ es) v (suc j) a b =
    other_before _ (v + suc j) (begins v a b (heard e 0)) (together es (suc v) a b) (omega arith) (voices_begins (λ u. u ≡ v + suc j → ⊥) v a b (heard e 0) (λ z. omega arith))
    ∙ ap (λ (u : ℕ). of_voice u (together es (suc v) a b)) there ∙ of_each es (suc v) j a b
  where
    there : v + suc j ≡ suc v + j
    there = omega arith

pub nothing_lost : NothingLost
nothing_lost s v a b = let z : v ≡ 0 + v = omega arith in ap (λ (u : ℕ). of_voice u (together s 0 a b)) z ∙ of_each s 0 v a b
