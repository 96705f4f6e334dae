-- Every answer that a score can give fits its fields. Assumes nothing.
use Rattle.std.proofs.Common.{◌≡◌, ℕ, zero, suc, ◌+◌, ◌%◌, ◌<◌, ◌≤◌, Bool, true, false, ◌&&◌, eqb, ltb, leb, List, [], ◌∷◌, ◌++◌, length, get_or, refl, arith}
use Rattle.std.proofs.lemmas.List.{length-append}
use Rattle.std.proofs.lemmas.Bool.{and_parts, and_from, lt-ltb, ltb-true, leb-true, eqb-true}
use Rattle.score.specs.Music.{pick, Event, note, silence, lasts, total, fine, all_fine, Heard, heard, tone, of_step, places, alterations, length_end}
use Rattle.score.specs.Print.{Symbol, bar, head, rest, key, Chunk, value, line, chunks, heads, rests, print, printed, from_bar, so_many}
use Rattle.score.specs.Calls.{Call, put, cut, change, show, heard_in, how_long, refused, Limits, Layout, Score, voice, all_events, none_too_long, ticks_end, most_bars, good_fields, fits, changed, begins, merged, together, turned_by, turned, told, place}
use Rattle.score.specs.Promise.{GoodLayout, GoodLimits, field, field_end, readable}
use Rattle.score.proofs.Picks.{pick_both}
use Rattle.laws.specs.Laying.{LiesWell}
use Rattle.laws.proofs.Bars.{marks, lies_print}
use Rattle.laws.proofs.Pieces.{value_good}
use Rattle.laws.proofs.Room.{page_fits}
use Rattle.laws.proofs.Turning.{not_turned}
use Rattle.wire.specs.Bytes.{answer_bytes}
use Rattle.wire.specs.Fits.{symbol_fits, sound_fits, all_fit, answer_fits}
use Rattle.wire.proofs.Rows.{length_symbols, length_sounds}
use Rattle.memory.specs.Store.{bytes_asked, all_fines, Kept}
use Rattle.memory.specs.Owed.{AnswersFit, AnswersShort}
use Rattle.memory.proofs.Scores.{fine_fields, fine_place, fines_voice, short_voice}

-- ---- symbols

-- the places and signs of heads are bytes
abbrev Signed : List Symbol → Type 0
Signed [] = Unit {0}
Signed (bar ∷ xs) = Signed xs
Signed (head p s v t ∷ xs) = (p < 256) × (s < 256) × Signed xs
Signed (rest v ∷ xs) = Signed xs

heads_signed : (p s : ℕ) (cs : List Chunk) (ys : List Symbol) → p < 256 → s < 256 → Signed ys → Signed (heads p s cs ++ ys)
unfolding heads
heads_signed p s [] ys hp hs h = h
heads_signed p s (line ∷ cs) ys hp hs h = heads_signed p s cs ys hp hs h
heads_signed p s (value v ∷ cs) ys hp hs h = (hp, hs, heads_signed p 0 cs ys hp (omega arith) h)

rests_signed : (cs : List Chunk) (ys : List Symbol) → Signed ys → Signed (rests cs ++ ys)
unfolding rests
rests_signed [] ys h = h
rests_signed (line ∷ cs) ys h = rests_signed cs ys h
rests_signed (value v ∷ cs) ys h = rests_signed cs ys h

print_signed : (k b o : ℕ) (st : ℕ → ℕ) (es : List Event) → all_fine es ≡ true → Signed (print k b o st es)
unfolding print all_fine
print_signed k b o st [] f = tt
print_signed k b o st (note p a d ∷ es) f =
    let g = and_parts (fine (note p a d)) (all_fine es) f in
    let w = fine_fields (note p a d) g.0 in
    heads_signed p (pick (eqb (st p) a) 0 (suc a)) (chunks (suc d) b o d) _ (omega (arith, w.0))
    (pick_both (λ n. n < 256) (eqb (st p) a) 0 (suc a) (λ _. omega arith) (λ _. omega (arith, w.1)))
    (print_signed k b ((o + d) % b) _ es g.1)
print_signed k b o st (silence d ∷ es) f = rests_signed (chunks (suc d) b o d) _ (print_signed k b ((o + d) % b) _ es (and_parts (fine (silence d)) (all_fine es) f).1)

-- and values that lie well fit, too
symbols_small : (b t : ℕ) (xs : List Symbol) → LiesWell b t (marks xs) → Signed xs → all_fit symbol_fits xs ≡ true
unfolding LiesWell marks all_fit
symbols_small b t [] f g = refl
symbols_small b t (bar ∷ xs) f g = symbols_small b 0 xs f.1 g
symbols_small b t (head p s v i ∷ xs) f g =
    let w = value_good v f.1 in
    and_from _ _ (and_from _ _ (lt-ltb p 256 g.0) (and_from _ _ (lt-ltb s 256 g.1) (lt-ltb v length_end (omega arith)))) (symbols_small b (t + v) xs f.2 g.2)
symbols_small b t (rest v ∷ xs) f g =
    let w = value_good v f.1 in
    and_from _ _ (lt-ltb v length_end (omega arith)) (symbols_small b (t + v) xs f.2 g)

from_fit : (f : Symbol → Bool) (n : ℕ) (xs : List Symbol) → all_fit f xs ≡ true → all_fit f (from_bar n xs) ≡ true
unfolding from_bar all_fit
from_fit f zero xs h = h
from_fit f (suc n) [] h = refl
from_fit f (suc n) (bar ∷ xs) h = from_fit f n xs (and_parts (f bar) _ h).1
from_fit f (suc n) (head p s v t ∷ xs) h = from_fit f (suc n) xs (and_parts (f (head p s v t)) _ h).1
from_fit f (suc n) (rest v ∷ xs) h = from_fit f (suc n) xs (and_parts (f (rest v)) _ h).1

many_fit : (f : Symbol → Bool) (xs : List Symbol) (n : ℕ) → all_fit f xs ≡ true → all_fit f (so_many xs n) ≡ true
unfolding so_many all_fit
many_fit f [] zero h = refl
many_fit f (x ∷ xs) zero h = refl
many_fit f [] (suc n) h = refl
many_fit f (bar ∷ xs) (suc n) h = let p = and_parts (f bar) _ h in and_from _ _ p.0 (many_fit f xs n p.1)
many_fit f (head p s v t ∷ xs) (suc n) h = let q = and_parts (f (head p s v t)) _ h in and_from _ _ q.0 (many_fit f xs (suc n) q.1)
many_fit f (rest v ∷ xs) (suc n) h = let q = and_parts (f (rest v)) _ h in and_from _ _ q.0 (many_fit f xs (suc n) q.1)

shown_small : (k b from n : ℕ) (es : List Event) → 0 < b → b % 3 ≡ 0 → all_fine es ≡ true → all_fit symbol_fits (so_many (from_bar from (printed k b es)) n) ≡ true
shown_small k b from n es h b3 f =
    many_fit symbol_fits (from_bar from (printed k b es)) n
    (from_fit symbol_fits from (printed k b es) (symbols_small b 0 (printed k b es) (lies_print k b 0 (key k) es h b3 refl f) (print_signed k b 0 (key k) es f)))

-- ---- sounds

step_small : (xs : List ℕ) (i : ℕ) → Rattle.score.specs.Promise.all_below 12 xs ≡ true → get_or xs i 0 < 12
unfolding Rattle.score.specs.Promise.all_below
step_small [] i h = omega arith
step_small (x ∷ xs) zero h = ltb-true x 12 (and_parts (ltb x 12) _ h).0
step_small (x ∷ xs) (suc i) h = step_small xs i (and_parts (ltb x 12) _ h).1

tone_small : (p a : ℕ) → p < places → a < alterations → tone p a < 256
unfolding of_step Rattle.score.specs.Promise.all_below
tone_small p a hp ha = let s = step_small (0 ∷ (2 ∷ (4 ∷ (5 ∷ (7 ∷ (9 ∷ (11 ∷ []))))))) (p % 7) refl in omega arith

heard_small : (v : ℕ) (es : List Event) (t : ℕ) → v < 256 → all_fine es ≡ true → t + total es < field_end → all_fit (λ h. sound_fits (v, h)) (heard es t) ≡ true
unfolding heard all_fit all_fine total lasts
heard_small v [] t hv f lt = refl
heard_small v (note p a d ∷ es) t hv f lt =
    let g = and_parts (fine (note p a d)) (all_fine es) f in
    let w = fine_fields (note p a d) g.0 in
    and_from _ _
    (and_from _ _ (lt-ltb v 256 hv)
    (and_from _ _ (lt-ltb (tone p a) 256 (tone_small p a (fine_place p a d g.0) w.1))
    (and_from _ _ (lt-ltb t field_end (omega arith)) (lt-ltb d length_end w.3))))
    (heard_small v es (t + d) hv g.1 (omega arith))
heard_small v (silence d ∷ es) t hv f lt = heard_small v es (t + d) hv (and_parts (fine (silence d)) (all_fine es) f).1 (omega arith)

begins_small : (v a b : ℕ) (hs : List Heard) → all_fit (λ h. sound_fits (v, h)) hs ≡ true → all_fit sound_fits (begins v a b hs) ≡ true
unfolding begins all_fit
begins_small v a b [] f = refl
begins_small v a b (h ∷ hs) f =
    let p = and_parts (sound_fits (v, h)) _ f in
    pick_both (λ xs. all_fit sound_fits xs ≡ true) (leb a h.start && ltb h.start b) ((v, h) ∷ begins v a b hs) (begins v a b hs)
    (λ _. and_from _ _ p.0 (begins_small v a b hs p.1)) (λ _. begins_small v a b hs p.1)

fit_append : {A : Type 0} (f : A → Bool) (xs ys : List A) → all_fit f xs ≡ true → all_fit f ys ≡ true → all_fit f (xs ++ ys) ≡ true
unfolding all_fit
fit_append f [] ys h k = k
fit_append f (x ∷ xs) ys h k = let p = and_parts (f x) _ h in and_from _ _ p.0 (fit_append f xs ys p.1 k)

merged_fit : (f : ℕ × Heard → Bool) (n : ℕ) (xs ys : List (ℕ × Heard)) → all_fit f xs ≡ true → all_fit f ys ≡ true → all_fit f (merged n xs ys) ≡ true
unfolding merged all_fit
merged_fit f zero xs ys h k = fit_append f xs ys h k
merged_fit f (suc n) [] ys h k = k
merged_fit f (suc n) (x ∷ xs) [] h k = h
merged_fit f (suc n) (x ∷ xs) (y ∷ ys) h k =
    let p = and_parts (f x) _ h in
    let q = and_parts (f y) _ k in
    pick_both (λ zs. all_fit f zs ≡ true) (leb x.1.start y.1.start) (x ∷ merged n xs (y ∷ ys)) (y ∷ merged n (x ∷ xs) ys)
    (λ _. and_from _ _ p.0 (merged_fit f n xs (y ∷ ys) p.1 k)) (λ _. and_from _ _ q.0 (merged_fit f n (x ∷ xs) ys h q.1))

together_small : (s : Score) (v a b : ℕ) → v + length s ≤ 256 → all_fines s ≡ true → none_too_long s ≡ true → all_fit sound_fits (together s v a b) ≡ true
unfolding together all_fit all_fines none_too_long
together_small [] v a b le f t = refl
together_small (e ∷ es) v a b le f t =
    let g = and_parts (all_fine e) (all_fines es) f in
    let u = and_parts (ltb (total e) ticks_end) (none_too_long es) t in
    let short = ltb-true (total e) ticks_end u.0 in
    merged_fit sound_fits _ (begins v a b (heard e 0)) (together es (suc v) a b)
    (begins_small v a b (heard e 0) (heard_small v e 0 (omega arith) g.0 (omega arith))) (together_small es (suc v) a b (omega arith) g.1 u.1)

-- there are not more of them than events

few_heard : (es : List Event) (t : ℕ) → length (heard es t) ≤ length es
unfolding heard
few_heard [] t = omega arith
few_heard (note p a d ∷ es) t = omega (arith, few_heard es (t + d))
few_heard (silence d ∷ es) t = omega (arith, few_heard es (t + d))

few_begin : (v a b : ℕ) (hs : List Heard) → length (begins v a b hs) ≤ length hs
unfolding begins
few_begin v a b [] = omega arith
few_begin v a b (h ∷ hs) =
    let r = few_begin v a b hs in
    pick_both (λ xs. length xs ≤ suc (length hs)) (leb a h.start && ltb h.start b) ((v, h) ∷ begins v a b hs) (begins v a b hs) (λ _. omega arith) (λ _. omega arith)

pub length_merged : (n : ℕ) (xs ys : List (ℕ × Heard)) → length (merged n xs ys) ≡ length xs + length ys
unfolding merged
length_merged zero xs ys = length-append xs ys
length_merged (suc n) [] ys = omega arith
length_merged (suc n) (x ∷ xs) [] = omega arith
length_merged (suc n) (x ∷ xs) (y ∷ ys) =
    let a = length_merged n xs (y ∷ ys) in
    let b = length_merged n (x ∷ xs) ys in
    pick_both (λ zs. length zs ≡ suc (length xs) + suc (length ys)) (leb x.1.start y.1.start) (x ∷ merged n xs (y ∷ ys)) (y ∷ merged n (x ∷ xs) ys) (λ _. omega arith) (λ _. omega arith)

pub few_together : (s : Score) (v a b : ℕ) → length (together s v a b) ≤ all_events s
unfolding together all_events
few_together [] v a b = omega arith
few_together (e ∷ es) v a b =
    let m = length_merged (length (begins v a b (heard e 0)) + length (together es (suc v) a b)) (begins v a b (heard e 0)) (together es (suc v) a b) in
    omega (arith, m, few_begin v a b (heard e 0), few_heard e 0, few_together es (suc v) a b)

-- ---- refusals

by_small : (s : Score) (c : Call) → turned_by s c < 256
unfolding turned_by
by_small s c = by c
  where
    two : (a b : Bool) → pick a (pick b 0 5) 4 < 256
    two true true = omega arith
    two true false = omega arith
    two false b = omega arith

    by : (c : Call) → turned_by s c < 256
    by (put v i e) = two (ltb v (length s)) (leb i (length (voice s v)))
    by (cut v i) = two (ltb v (length s)) (ltb i (length (voice s v)))
    by (change v i e) = two (ltb v (length s)) (ltb i (length (voice s v)))
    by (show v b n) = two (ltb v (length s)) true
    by (heard_in a b) = omega arith
    by (how_long v) = two (ltb v (length s)) true

turned_small : (l : Limits) (y : Layout) (s : Score) (c : Call) → turned l y s c < 256
turned_small l y s c =
    pick_both (λ n. n < 256) _ _ 2
    (λ _. pick_both (λ n. n < 256) (eqb (turned_by s c) 0) _ (turned_by s c) (λ _. pick_both (λ n. n < 256) (fits l (changed s c)) 0 6 (λ _. omega arith) (λ _. omega arith)) (λ _. by_small s c))
    (λ _. omega arith)

of_two : (x y : Bool) (v i : ℕ) → field v ≡ true → field i ≡ true → field (pick x v (pick y i 0)) ≡ true
of_two true y v i p q = p
of_two false true v i p q = q
of_two false false v i p q = refl

place_small : (c : Call) (n : ℕ) → readable c ≡ true → field (place c n) ≡ true
unfolding place readable
place_small (put v i e) n r =
    let p = and_parts (field v) _ r in
    of_two (eqb n 4) (eqb n 5) v i p.0 (and_parts (field i) _ p.1).0
place_small (cut v i) n r = let p = and_parts (field v) _ r in of_two (eqb n 4) (eqb n 5) v i p.0 p.1
place_small (change v i e) n r =
    let p = and_parts (field v) _ r in
    of_two (eqb n 4) (eqb n 5) v i p.0 (and_parts (field i) _ p.1).0
place_small (show v b m) n r = pick_both (λ p. field p ≡ true) (eqb n 4) v 0 (λ _. (and_parts (field v) _ r).0) (λ _. refl)
place_small (heard_in a b) n r = refl
place_small (how_long v) n r = pick_both (λ p. field p ≡ true) (eqb n 4) v 0 (λ _. r) (λ _. refl)

-- ---- answers

told_fits : (l : Limits) (y : Layout) (s : Score) (c : Call) → GoodLayout y → GoodLimits l → Kept l s → good_fields l y c ≡ true → answer_fits (told y s c) ≡ true
unfolding told answer_fits good_fields
told_fits l y s (put v i e) gy gl k g = refl
told_fits l y s (cut v i) gy gl k g = refl
told_fits l y s (change v i e) gy gl k g = refl
told_fits l y s (show v b n) gy gl k g =
    let f = fines_voice s v k.fines in
    let few = page_fits y.in_key y.bar_long (voice s v) b n gy.1 gy.3 f gy.2 (leb-true n most_bars g) in
    and_from _ _ (lt-ltb _ field_end (omega arith)) (shown_small y.in_key y.bar_long b n (voice s v) gy.1 gy.3 f)
told_fits l y s (heard_in a b) gy gl k g =
    let few = few_together s 0 a b in
    let fit = k.fitting in
    let n = k.so_many in
    and_from _ _ (lt-ltb _ field_end (omega (arith, gl.2))) (together_small s 0 a b (omega (arith, gl.1)) k.fines k.short)
told_fits l y s (how_long v) gy gl k g = lt-ltb _ field_end (omega (arith, short_voice s v k.short))

refused_fits : (n p : ℕ) → n < 256 → field p ≡ true → answer_fits (refused n p) ≡ true
unfolding answer_fits
refused_fits n p lt f = and_from _ _ (lt-ltb n 256 lt) f

pub answers_fit : AnswersFit
answers_fit l y s c gy gl k r =
    pick_both (λ a. answer_fits a ≡ true) (eqb (turned l y s c) 0) (told y s c) (refused (turned l y s c) (place c (turned l y s c)))
    (λ z. told_fits l y s c gy gl k (and_parts _ (good_fields l y c) (not_turned l y s c (eqb-true _ 0 z)).0).1)
    (λ z. refused_fits (turned l y s c) (place c (turned l y s c)) (turned_small l y s c) (place_small c (turned l y s c) r))

told_short : (l : Limits) (y : Layout) (s : Score) (c : Call) → GoodLayout y → Kept l s → good_fields l y c ≡ true → length (answer_bytes (told y s c)) ≤ bytes_asked l.events
unfolding told good_fields
told_short l y s (put v i e) gy k g = omega arith
told_short l y s (cut v i) gy k g = omega arith
told_short l y s (change v i e) gy k g = omega arith
told_short l y s (show v b n) gy k g =
    let f = fines_voice s v k.fines in
    let few = page_fits y.in_key y.bar_long (voice s v) b n gy.1 gy.3 f gy.2 (leb-true n most_bars g) in
    let m = length_symbols (so_many (from_bar b (printed y.in_key y.bar_long (voice s v))) n) in
    omega arith
told_short l y s (heard_in a b) gy k g = let fit = k.fitting in omega (arith, few_together s 0 a b, length_sounds (together s 0 a b))
told_short l y s (how_long v) gy k g = omega arith

refused_short : (n p events : ℕ) → length (answer_bytes (refused n p)) ≤ bytes_asked events
refused_short n p events = omega arith

pub answers_short : AnswersShort
answers_short l y s c gy k =
    pick_both (λ a. length (answer_bytes a) ≤ bytes_asked l.events) (eqb (turned l y s c) 0) (told y s c) (refused (turned l y s c) (place c (turned l y s c)))
    (λ z. told_short l y s c gy k (and_parts _ (good_fields l y c) (not_turned l y s c (eqb-true _ 0 z)).0).1)
    (λ z. refused_short (turned l y s c) (place c (turned l y s c)) l.events)
