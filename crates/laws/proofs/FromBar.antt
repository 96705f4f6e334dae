-- Who begins at a bar into which nothing is tied hears what is heard from there. Assumes nothing.
use Rattle.std.proofs.Common.{◌≡◌, ℕ, zero, suc, ◌+◌, ◌*◌, ◌<◌, ◌≤◌, Bool, true, false, not, ◌⊎◌, List, [], ◌∷◌, ◌++◌, sym, refl, ap, ◌∙◌, subst, ap₂, inl, inr, append_assoc, append-nil, add-zero, add_assoc, zero-add, arith}
use Rattle.std.proofs.lemmas.Bool.{both_ways, cases_lt}
use Rattle.score.specs.Music.{pick, Heard}
use Rattle.score.specs.Print.{Symbol, bar, head, rest, key, printed, Held, nothing, held, let_go, goes_on, longer, altered, then_holds, reads, read_from, from_bar, so_many}
use Rattle.score.specs.Promise.{FromABar, ends_free, no_tie_over, later}
use Rattle.laws.specs.Laying.{span, LiesWell}
use Rattle.laws.proofs.Bars.{marks, lies_print, lines}
use Rattle.laws.proofs.Reading.{went}

-- what is read in two parts: as r is behind each of two rows, so it is behind what is made of them
split_pick : (c : Bool) (a a' b b' r : List Heard) → a ≡ a' ++ r → b ≡ b' ++ r → pick c a b ≡ pick c a' b' ++ r
split_pick true a a' b b' r e f = e
split_pick false a a' b b' r e f = f

split_front : (l a a' r : List Heard) → a ≡ a' ++ r → l ++ a ≡ (l ++ a') ++ r
split_front l a a' r e = ap (λ (x : List Heard). l ++ x) e ∙ sym (append_assoc l a' r)

split_went : (k : ℕ) (xs ys : List Symbol) (t : ℕ) (st : ℕ → ℕ) (g : Held) (tied : Bool) (r : List Heard) →
    ((h : Held) → (not tied ≡ true → h ≡ nothing) → reads k xs t st h ≡ reads k ys t st h ++ r) → went k xs t st g tied ≡ went k ys t st g tied ++ r
split_went k xs ys t st g true r f = f g (λ z. absurd (both_ways false refl z))
split_went k xs ys t st g false r f = split_front (let_go g) _ (reads k ys t st nothing) r (f nothing (λ _. refl))

-- symbols read to a bar line over which nothing is tied, and on from there
read_split : (k : ℕ) (xs : List Symbol) (n t : ℕ) (st : ℕ → ℕ) (h : Held) (free : Bool) → (free ≡ true → h ≡ nothing) → suc n ≤ lines (marks xs) → ends_free (so_many xs (suc n)) free ≡ true →
    reads k xs t st h ≡ reads k (so_many xs (suc n)) t st h ++ reads k (from_bar (suc n) xs) (t + span (marks (so_many xs (suc n)))) (key k) nothing
unfolding lines marks so_many from_bar reads span let_go ends_free
read_split k [] n t st h free ok l e = absurd (omega arith)
read_split k (bar ∷ xs) zero t st h free ok l e =
    subst (λ (g : Held). reads k xs t (key k) g ≡ let_go g ++ reads k xs (t + 0) (key k) nothing) (sym (ok e))
    (ap (λ (x : ℕ). reads k xs x (key k) nothing) (sym (add-zero t)))
read_split k (bar ∷ xs) (suc n) t st h free ok l e = read_split k xs n t (key k) h free ok (omega arith) e
read_split k (rest v ∷ xs) n t st h free ok l e =
    split_front (let_go h) _ (reads k (so_many xs (suc n)) (t + v) st nothing) _
    (read_split k xs n (t + v) st nothing true (λ _. refl) l e
    ∙ ap (λ (x : ℕ). reads k (so_many xs (suc n)) (t + v) st nothing ++ reads k (from_bar (suc n) xs) x (key k) nothing) (add_assoc t v _))
read_split k (head p s v tied ∷ xs) n t st h free ok l e =
    split_pick (goes_on h p s) _ (went k ys (t + v) st (longer h v) tied) _ (let_go h ++ went k ys (t + v) (then_holds st p s) (held p (altered st p s) t v) tied) _
    (split_went k xs ys (t + v) st (longer h v) tied _ (behind st (λ g o. read_split k xs n (t + v) st g (not tied) o l e)))
    (split_front (let_go h) _ (went k ys (t + v) (then_holds st p s) (held p (altered st p s) t v) tied) _
    (split_went k xs ys (t + v) (then_holds st p s) (held p (altered st p s) t v) tied _ (behind (then_holds st p s) (λ g o. read_split k xs n (t + v) (then_holds st p s) g (not tied) o l e))))
  where
    ys : List Symbol
    ys = so_many xs (suc n)

    -- the same time, as the head and what is behind it count it
    behind : (st : ℕ → ℕ) →
        ((g : Held) → (not tied ≡ true → g ≡ nothing) → reads k xs (t + v) st g ≡ reads k ys (t + v) st g ++ reads k (from_bar (suc n) xs) (t + v + span (marks ys)) (key k) nothing) →
        (g : Held) → (not tied ≡ true → g ≡ nothing) → reads k xs (t + v) st g ≡ reads k ys (t + v) st g ++ reads k (from_bar (suc n) xs) (t + (v + span (marks ys))) (key k) nothing
    behind st ih g o = ih g o ∙ ap (λ (x : ℕ). reads k ys (t + v) st g ++ reads k (from_bar (suc n) xs) x (key k) nothing) (add_assoc t v (span (marks ys)))

-- bars that are full are as long as that
so_many_long : (b t : ℕ) (xs : List Symbol) (n : ℕ) → LiesWell b t (marks xs) → suc n ≤ lines (marks xs) → t + span (marks (so_many xs (suc n))) ≡ suc n * b
unfolding lines marks so_many span LiesWell
so_many_long b t [] n h l = absurd (omega arith)
so_many_long b t (bar ∷ xs) zero h l = omega (arith, h.0)
so_many_long b t (bar ∷ xs) (suc n) h l = let ih : 0 + span (marks (so_many xs (suc n))) ≡ suc n * b = so_many_long b 0 xs n h.1 (omega arith) in omega (arith, h.0)
so_many_long b t (head p s v w ∷ xs) n h l = sym (add_assoc t v _) ∙ so_many_long b (t + v) xs n h.2 l
so_many_long b t (rest v ∷ xs) n h l = sym (add_assoc t v _) ∙ so_many_long b (t + v) xs n h.2 l

-- to read later is to hear later
unfoldable pub held_later : ℕ → Held → Held
held_later u nothing = nothing
held_later u (held p a s l) = held p a (s + u) l

later-++ : (u : ℕ) (xs ys : List Heard) → later u (xs ++ ys) ≡ later u xs ++ later u ys
unfolding later
later-++ u [] ys = refl
later-++ u (x ∷ xs) ys = ap (λ (r : List Heard). record { start = x.start + u; long = x.long; high = x.high } ∷ r) (later-++ u xs ys)

let_go_later : (u : ℕ) (h : Held) → let_go (held_later u h) ≡ later u (let_go h)
unfolding let_go held_later later
let_go_later u nothing = refl
let_go_later u (held p a s l) = refl

goes_on_later : (u : ℕ) (h : Held) (p s : ℕ) → goes_on (held_later u h) p s ≡ goes_on h p s
unfolding goes_on held_later
goes_on_later u nothing p s = refl
goes_on_later u (held q a r l) p s = refl

longer_later : (u : ℕ) (h : Held) (v : ℕ) → longer (held_later u h) v ≡ held_later u (longer h v)
unfolding longer held_later
longer_later u nothing v = refl
longer_later u (held q a r l) v = refl

later_pick : (u : ℕ) (c c' : Bool) (a b a' b' : List Heard) → c ≡ c' → a ≡ later u a' → b ≡ later u b' → pick c a b ≡ later u (pick c' a' b')
later_pick u c true a b a' b' g e f = ap (λ (x : Bool). pick x a b) g ∙ e
later_pick u c false a b a' b' g e f = ap (λ (x : Bool). pick x a b) g ∙ f

later_front : (u : ℕ) (a b a' b' : List Heard) → a ≡ later u a' → b ≡ later u b' → a ++ b ≡ later u (a' ++ b')
later_front u a b a' b' e f = ap₂ (λ (x y : List Heard). x ++ y) e f ∙ sym (later-++ u a' b')

later_went : (k u : ℕ) (xs : List Symbol) (t : ℕ) (st : ℕ → ℕ) (g : Held) (tied : Bool) → ((h : Held) → reads k xs (t + u) st (held_later u h) ≡ later u (reads k xs t st h)) →
    went k xs (t + u) st (held_later u g) tied ≡ later u (went k xs t st g tied)
unfolding held_later
later_went k u xs t st g true f = f g
later_went k u xs t st g false f = later_front u _ _ (let_go g) (reads k xs t st nothing) (let_go_later u g) (f nothing)

read_later : (k u : ℕ) (xs : List Symbol) (t : ℕ) (st : ℕ → ℕ) (h : Held) → reads k xs (t + u) st (held_later u h) ≡ later u (reads k xs t st h)
unfolding reads held_later let_go
read_later k u [] t st h = let_go_later u h
read_later k u (bar ∷ xs) t st h = read_later k u xs t (key k) h
read_later k u (rest v ∷ xs) t st h =
    later_front u _ _ (let_go h) (reads k xs (t + v) st nothing) (let_go_later u h)
    (ap (λ (x : ℕ). reads k xs x st nothing) swap ∙ read_later k u xs (t + v) st nothing)
  where
    swap : t + u + v ≡ t + v + u
    swap = omega arith
read_later k u (head p s v tied ∷ xs) t st h =
    later_pick u _ (goes_on h p s) _ _ (went k xs (t + v) st (longer h v) tied) (let_go h ++ went k xs (t + v) (then_holds st p s) (held p (altered st p s) t v) tied)
    (goes_on_later u h p s)
    (ap₂ (λ (x : ℕ) (g : Held). went k xs x st g tied) swap (longer_later u h v) ∙ later_went k u xs (t + v) st (longer h v) tied (read_later k u xs (t + v) st))
    (later_front u _ _ (let_go h) (went k xs (t + v) (then_holds st p s) (held p (altered st p s) t v) tied) (let_go_later u h)
    (ap (λ (x : ℕ). went k xs x (then_holds st p s) (held p (altered st p s) (t + u) v) tied) swap
    ∙ later_went k u xs (t + v) (then_holds st p s) (held p (altered st p s) t v) tied (read_later k u xs (t + v) (then_holds st p s))))
  where
    swap : t + u + v ≡ t + v + u
    swap = omega arith

-- where there are fewer bars, all of it is before, and nothing behind
few_bars : (xs : List Symbol) (n : ℕ) → lines (marks xs) < n → (so_many xs n ≡ xs) × (from_bar n xs ≡ [])
unfolding lines marks so_many from_bar
few_bars xs zero h = absurd (omega arith)
few_bars [] (suc n) h = (refl, refl)
few_bars (bar ∷ xs) (suc n) h = let ih = few_bars xs n (omega arith) in (ap (λ (r : List Symbol). bar ∷ r) ih.0, ih.1)
few_bars (head p s v t ∷ xs) (suc n) h = let ih = few_bars xs (suc n) h in (ap (λ (r : List Symbol). head p s v t ∷ r) ih.0, ih.1)
few_bars (rest v ∷ xs) (suc n) h = let ih = few_bars xs (suc n) h in (ap (λ (r : List Symbol). rest v ∷ r) ih.0, ih.1)

abbrev pub Parted : ℕ → ℕ → ℕ → List Symbol → Type 0
Parted k b n xs = read_from k xs ≡ read_from k (so_many xs n) ++ later (n * b) (read_from k (from_bar n xs))

parted_none : (k b : ℕ) (xs : List Symbol) → Parted k b 0 xs
unfolding so_many from_bar reads let_go held_later
parted_none k b xs = let z : 0 ≡ 0 + 0 * b = omega arith in ap (λ (t : ℕ). reads k xs t (key k) nothing) z ∙ read_later k (0 * b) xs 0 (key k) nothing

parted_few : (k b n : ℕ) (xs : List Symbol) → lines (marks xs) < n → Parted k b n xs
unfolding reads let_go later
parted_few k b n xs few =
    let q = few_bars xs n few in
    sym (append-nil (read_from k xs))
    ∙ ap₂ (λ (x y : List Symbol). read_from k x ++ later (n * b) (read_from k y)) (sym q.0) (sym q.1)

parted_full : (k b n : ℕ) (xs : List Symbol) → LiesWell b 0 (marks xs) → suc n ≤ lines (marks xs) → no_tie_over xs (suc n) ≡ true → Parted k b (suc n) xs
unfolding no_tie_over held_later
parted_full k b n xs full l e =
    read_split k xs n 0 (key k) nothing true (λ _. refl) l e
    ∙ ap (λ (r : List Heard). read_from k (so_many xs (suc n)) ++ r)
    (ap (λ (t : ℕ). reads k (from_bar (suc n) xs) t (key k) nothing) (so_many_long b 0 xs n full l ∙ sym (zero-add (suc n * b)))
    ∙ read_later k (suc n * b) (from_bar (suc n) xs) 0 (key k) nothing)

-- symbols that lie well are read in two parts at each bar into which nothing is tied
pub parted : (k b n : ℕ) (xs : List Symbol) → LiesWell b 0 (marks xs) → no_tie_over xs n ≡ true → Parted k b n xs
parted k b zero xs full e = parted_none k b xs
parted k b (suc n) xs full e = go (cases_lt (lines (marks xs)) (suc n))
  where
    go : (lines (marks xs) < suc n) ⊎ (suc n ≤ lines (marks xs)) → Parted k b (suc n) xs
    go (inl few) = parted_few k b (suc n) xs few
    go (inr enough) = parted_full k b n xs full enough e

pub from_a_bar : FromABar
from_a_bar k b n es h b3 f e = parted k b n (printed k b es) (lies_print k b 0 (key k) es h b3 refl f) e
