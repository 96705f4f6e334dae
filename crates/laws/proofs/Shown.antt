-- Who reads some bars alone hears what begins in them. Assumes nothing.
use Rattle.std.proofs.Common.{◌≡◌, ℕ, zero, suc, ◌+◌, ◌*◌, ◌<◌, ◌≤◌, Bool, true, false, not, ◌&&◌, ltb, leb, ◌⊎◌, List, [], ◌∷◌, ◌++◌, sym, refl, ap, ◌∙◌, ap₂, inl, inr, append-nil, add-mul, add_comm, zero-add, arith}
use Rattle.std.proofs.lemmas.Bool.{and_from, and_left, and_right, le-leb, lt-leb, lt-ltb, le-ltb, cases_lt}
use Rattle.score.specs.Music.{pick, Heard, heard}
use Rattle.score.specs.Print.{Symbol, bar, head, rest, key, printed, Held, nothing, held, let_go, goes_on, longer, altered, then_holds, reads, read_from, from_bar, so_many}
use Rattle.score.specs.Promise.{ends_free, no_tie_over, later, begun_in}
use Rattle.score.proofs.Picks.{pick_true, pick_false, pick_both}
use Rattle.laws.specs.Laying.{LiesWell}
use Rattle.laws.specs.Shown.{BarsHeard}
use Rattle.laws.proofs.Bars.{marks, lies_print}
use Rattle.laws.proofs.Owing.{so_many_end}
use Rattle.laws.proofs.Room.{lies_shown}
use Rattle.laws.proofs.Reading.{sound, went, reads_back}
use Rattle.laws.proofs.FromBar.{parted}

-- sounds that all begin before a tick
unfoldable pub AllBefore : ℕ → List Heard → Type 0
AllBefore t [] = Unit {0}
AllBefore t (h ∷ hs) = (h.start < t) × AllBefore t hs

before-++ : (t : ℕ) (xs ys : List Heard) → AllBefore t xs → AllBefore t ys → AllBefore t (xs ++ ys)
unfolding AllBefore
before-++ t [] ys p q = q
before-++ t (x ∷ xs) ys p q = (p.0, before-++ t xs ys p.1 q)

-- what begins in a span: of two rows, of sounds that are all earlier than that, and of sounds that are all before its end
begun-++ : (a b : ℕ) (xs ys : List Heard) → begun_in a b (xs ++ ys) ≡ begun_in a b xs ++ begun_in a b ys
unfolding begun_in
begun-++ a b [] ys = refl
begun-++ a b (x ∷ xs) ys = go (leb a x.start && ltb x.start b) (begun-++ a b xs ys)
  where
    go : (c : Bool) → begun_in a b (xs ++ ys) ≡ begun_in a b xs ++ begun_in a b ys →
        pick c (x ∷ begun_in a b (xs ++ ys)) (begun_in a b (xs ++ ys)) ≡ pick c (x ∷ begun_in a b xs) (begun_in a b xs) ++ begun_in a b ys
    go true ih = ap (λ (r : List Heard). x ∷ r) ih
    go false ih = ih

none_before : (a b : ℕ) (hs : List Heard) → AllBefore a hs → begun_in a b hs ≡ []
unfolding begun_in AllBefore
none_before a b [] p = refl
none_before a b (h ∷ hs) p = pick_false _ _ _ (and_left _ _ (lt-leb a h.start p.0)) ∙ none_before a b hs p.1

stay_before : (b : ℕ) (hs : List Heard) → AllBefore b hs → begun_in 0 b hs ≡ hs
unfolding begun_in AllBefore
stay_before b [] p = refl
stay_before b (h ∷ hs) p =
    pick_true _ _ _ (and_from _ _ (le-leb 0 h.start (omega arith)) (lt-ltb h.start b p.0)) ∙ ap (λ (r : List Heard). h ∷ r) (stay_before b hs p.1)

-- and of what is heard later
none_later : (a b : ℕ) (hs : List Heard) → begun_in a b (later b hs) ≡ []
unfolding begun_in later
none_later a b [] = refl
none_later a b (h ∷ hs) = pick_false _ _ _ (and_right _ _ (le-ltb (h.start + b) b (omega arith))) ∙ none_later a b hs

begun_later : (b t : ℕ) (hs : List Heard) → begun_in t (b + t) (later t hs) ≡ later t (begun_in 0 b hs)
unfolding begun_in later
begun_later b t [] = refl
begun_later b t (h ∷ hs) = go (cases_lt h.start b) (begun_later b t hs)
  where
    go : (h.start < b) ⊎ (b ≤ h.start) → begun_in t (b + t) (later t hs) ≡ later t (begun_in 0 b hs) →
        begun_in t (b + t) (later t (h ∷ hs)) ≡ later t (begun_in 0 b (h ∷ hs))
    go (inl p) ih =
        pick_true _ _ _ (and_from _ _ (le-leb t (h.start + t) (omega arith)) (lt-ltb (h.start + t) (b + t) (omega arith)))
        ∙ ap (λ (r : List Heard). sound (h.start + t) h.long h.high ∷ r) ih
        ∙ ap (later t) (sym (pick_true _ _ _ (and_from _ _ (le-leb 0 h.start (omega arith)) (lt-ltb h.start b p))))
    go (inr p) ih =
        pick_false _ _ _ (and_right _ _ (le-ltb (h.start + t) (b + t) (omega arith))) ∙ ih
        ∙ ap (later t) (sym (pick_false _ _ _ (and_right _ _ (le-ltb h.start b p))))

-- what is read of bars begins before their end, as it does where a head is held
longer_before : (e : ℕ) (h : Held) (v : ℕ) → AllBefore e (let_go h) → AllBefore e (let_go (longer h v))
unfolding AllBefore let_go longer
longer_before e nothing v p = tt
longer_before e (held p a s l) v q = q

went_before : (k e : ℕ) (xs : List Symbol) (t : ℕ) (st : ℕ → ℕ) (g : Held) (tied : Bool) → AllBefore e (let_go g) →
    ((h : Held) → AllBefore e (let_go h) → AllBefore e (reads k xs t st h)) → AllBefore e (went k xs t st g tied)
unfolding AllBefore let_go
went_before k e xs t st g true p f = f g p
went_before k e xs t st g false p f = before-++ e (let_go g) (reads k xs t st nothing) p (f nothing tt)

read_before : (k b o e : ℕ) (xs : List Symbol) (n t : ℕ) (st : ℕ → ℕ) (h : Held) → LiesWell b o (marks xs) → t + suc n * b ≤ e + o → AllBefore e (let_go h) →
    AllBefore e (reads k (so_many xs (suc n)) t st h)
unfolding reads so_many marks LiesWell AllBefore let_go
read_before k b o e [] n t st h w l p = p
read_before k b o e (bar ∷ xs) zero t st h w l p = p
read_before k b o e (bar ∷ xs) (suc n) t st h w l p = read_before k b 0 e xs n t (key k) h w.1 (omega (arith, w.0)) p
read_before k b o e (rest v ∷ xs) n t st h w l p = before-++ e (let_go h) _ p (read_before k b (o + v) e xs n (t + v) st nothing w.2 (omega arith) tt)
read_before k b o e (head q s v tied ∷ xs) n t st h w l p =
    pick_both (AllBefore e) (goes_on h q s) (went k (so_many xs (suc n)) (t + v) st (longer h v) tied)
    (let_go h ++ went k (so_many xs (suc n)) (t + v) (then_holds st q s) (held q (altered st q s) t v) tied)
    (λ _. went_before k e (so_many xs (suc n)) (t + v) st (longer h v) tied (longer_before e h v p) (λ g r. read_before k b (o + v) e xs n (t + v) st g w.2 (omega arith) r))
    (λ _. before-++ e (let_go h) _ p
    (went_before k e (so_many xs (suc n)) (t + v) (then_holds st q s) (held q (altered st q s) t v) tied (omega (arith, w.0), tt)
    (λ g r. read_before k b (o + v) e xs n (t + v) (then_holds st q s) g w.2 (omega arith) r)))

bars_before : (k b n : ℕ) (xs : List Symbol) → LiesWell b 0 (marks xs) → AllBefore (n * b) (read_from k (so_many xs n))
unfolding AllBefore so_many reads let_go
bars_before k b zero xs w = tt
bars_before k b (suc n) xs w = read_before k b 0 (suc n * b) xs n 0 (key k) nothing w (omega arith) tt

-- the first m + n bars are the first m, and then n from there on
so_many_more : (xs : List Symbol) (m n l : ℕ) → l ≡ m + n → so_many xs l ≡ so_many xs m ++ so_many (from_bar m xs) n
unfolding so_many from_bar
so_many_more xs zero n l e = ap (so_many xs) (e ∙ zero-add n)
so_many_more [] (suc m) n l e = so_many_end l ∙ sym (so_many_end n)
so_many_more (x ∷ xs) (suc m) n zero e = absurd (omega arith)
so_many_more (bar ∷ xs) (suc m) n (suc l) e = ap (λ (r : List Symbol). bar ∷ r) (so_many_more xs m n l (omega arith))
so_many_more (head p s v t ∷ xs) (suc m) n (suc l) e = ap (λ (r : List Symbol). head p s v t ∷ r) (so_many_more xs (suc m) n (suc l) e)
so_many_more (rest v ∷ xs) (suc m) n (suc l) e = ap (λ (r : List Symbol). rest v ∷ r) (so_many_more xs (suc m) n (suc l) e)

-- so what is tied into neither end of some bars is tied into neither where they stand alone
free-++ : (xs ys : List Symbol) (free : Bool) → ends_free (xs ++ ys) free ≡ ends_free ys (ends_free xs free)
unfolding ends_free
free-++ [] ys free = refl
free-++ (bar ∷ xs) ys free = free-++ xs ys free
free-++ (rest v ∷ xs) ys free = free-++ xs ys true
free-++ (head p s v tied ∷ xs) ys free = free-++ xs ys (not tied)

free_from : (xs : List Symbol) (m n : ℕ) → no_tie_over xs m ≡ true → no_tie_over xs (m + n) ≡ true → no_tie_over (from_bar m xs) n ≡ true
unfolding no_tie_over
free_from xs m n e f =
    sym (ap (λ (x : List Symbol). ends_free x true) (so_many_more xs m n (m + n) refl) ∙ free-++ (so_many xs m) (so_many (from_bar m xs) n) true ∙ ap (ends_free (so_many (from_bar m xs) n)) e) ∙ f

-- of sounds in three parts, those of the part in the middle
begun_middle : (a d : ℕ) (xs ys zs : List Heard) → AllBefore a xs → AllBefore d ys → begun_in a (d + a) (xs ++ later a (ys ++ later d zs)) ≡ later a ys
begun_middle a d xs ys zs p q =
    begun-++ a (d + a) xs (later a (ys ++ later d zs))
    ∙ ap₂ (λ (r u : List Heard). r ++ u) (none_before a (d + a) xs p)
    (begun_later d a (ys ++ later d zs)
    ∙ ap (later a) (begun-++ 0 d ys (later d zs) ∙ ap₂ (λ (r u : List Heard). r ++ u) (stay_before d ys q) (none_later 0 d zs) ∙ append-nil ys))

pub bars_heard : BarsHeard
bars_heard k b m n es h b3 f e g =
    sym (ap₂ (λ (t : ℕ) (r : List Heard). begun_in (m * b) t r) ends parts
    ∙ begun_middle (m * b) (n * b) (read_from k (so_many xs m)) (read_from k (so_many ys n)) _ (bars_before k b m xs well) (bars_before k b n ys well_shown))
  where
    xs : List Symbol
    xs = printed k b es

    ys : List Symbol
    ys = from_bar m xs

    well : LiesWell b 0 (marks xs)
    well = lies_print k b 0 (key k) es h b3 refl f

    well_shown : LiesWell b 0 (marks ys)
    well_shown = lies_shown k b m es h b3 f

    ends : (m + n) * b ≡ n * b + m * b
    ends = add-mul m n b ∙ add_comm (m * b) (n * b)

    parts : heard es 0 ≡ read_from k (so_many xs m) ++ later (m * b) (read_from k (so_many ys n) ++ later (n * b) (read_from k (from_bar n ys)))
    parts =
        sym (reads_back k b es h b3 f) ∙ parted k b m xs well e
        ∙ ap (λ (r : List Heard). read_from k (so_many xs m) ++ later (m * b) r) (parted k b n ys well_shown (free_from xs m n e g))
