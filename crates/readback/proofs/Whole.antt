-- A voice that is printed whole can be played, and who plays it hears what the voice means. Assumes nothing.
use Rattle.std.proofs.Common.{◌≡◌, ℕ, zero, suc, ◌+◌, ◌-◌, ◌*◌, ◌/◌, ◌%◌, ◌^◌, ◌<◌, ◌≤◌, true, eqb, ◌⊎◌, List, [], ◌∷◌, ◌++◌, length, take, drop, Ok, Result, sym, refl, ap, ◌∙◌, subst, ap₂, inl, inr, mul-le-mul_right, div-lt_iff_lt-mul, mul-le-mul_left, div-le_self, arith}
use Rattle.std.proofs.lemmas.List.{take_at}
use Rattle.std.proofs.lemmas.Bool.{and_parts, and_from, ltb-true, lt-ltb, le-ltb, le-leb, cases_lt}
use Rattle.score.specs.declared.Refusal.{Refusal}
use Rattle.score.specs.Music.{places, alterations, Event, note, silence, Heard, heard, total, fine, all_fine}
use Rattle.score.specs.Print.{Symbol, bar, head, rest, key, Chunk, value, line, chunks, heads, rests, print, printed, read_from, from_bar, so_many}
use Rattle.score.proofs.Picks.{pick_false, pick_both}
use Rattle.laws.specs.Owed.{sign_of}
use Rattle.laws.specs.Rows.{voice_of}
use Rattle.laws.proofs.Bars.{marks, lines, lines_print}
use Rattle.laws.proofs.Reading.{reads_back}
use Rattle.laws.proofs.Rows.{length_voice}
use Rattle.wire.specs.Bytes.{symbols_bytes}
use Rattle.wire.proofs.Rows.{length_symbols}
use Rattle.score.specs.declared.Layout.{Layout}
use Rattle.rows.specs.declared.Rows.{Rows}
use Rattle.engraving.specs.Shown.{asked_for, shown}
use Rattle.rows.specs.Rows.{voice_in}
use Rattle.engraving.proofs.Room.{shown_fits}
use Rattle.reading.specs.Symbols.{symbols_of, outcome}
use Rattle.reading.proofs.Rows.{all_play, symbols_back}
use Rattle.readback.specs.Checked.{bars_or_refusal}
use Rattle.readback.specs.Heard.{page_of, unless_refused, answered}
use Rattle.readback.proofs.Checks.{Checked}

-- more bars than there are lines are all bars
all_bars : (xs : List Symbol) (n : ℕ) → lines (marks xs) < n → so_many xs n ≡ xs
unfolding lines marks so_many
all_bars xs zero h = absurd (omega arith)
all_bars [] (suc n) h = refl
all_bars (bar ∷ xs) (suc n) h = ap (λ (ys : List Symbol). bar ∷ ys) (all_bars xs n (omega arith))
all_bars (head p s v t ∷ xs) (suc n) h = ap (λ (ys : List Symbol). head p s v t ∷ ys) (all_bars xs (suc n) h)
all_bars (rest v ∷ xs) (suc n) h = ap (λ (ys : List Symbol). rest v ∷ ys) (all_bars xs (suc n) h)

few_lines : (k b n : ℕ) (es : List Event) → 0 < b → b % 3 ≡ 0 → all_fine es ≡ true → total es < n * b → lines (marks (printed k b es)) < n
few_lines k b n es h b3 f l = go (cases_lt (lines (marks (printed k b es))) n)
  where
    go : (lines (marks (printed k b es)) < n) ⊎ (n ≤ lines (marks (printed k b es))) → lines (marks (printed k b es)) < n
    go (inl m) = m
    go (inr m) = absurd (omega (arith, mul-le-mul_right b m, (lines_print k b es h b3 f).0))

pub whole_is : (k b n : ℕ) (es : List Event) → 0 < b → b % 3 ≡ 0 → all_fine es ≡ true → total es < n * b → asked_for k b es 0 n ≡ printed k b es
unfolding from_bar
whole_is k b n es h b3 f l = all_bars (printed k b es) n (few_lines k b n es h b3 f l)

-- places and signs are those that there are
plays_heads : (p s : ℕ) (cs : List Chunk) (xs : List Symbol) → p < places → s ≤ alterations → all_play xs ≡ true → all_play (heads p s cs ++ xs) ≡ true
unfolding heads all_play
plays_heads p s [] xs h g w = w
plays_heads p s (line ∷ cs) xs h g w = plays_heads p s cs xs h g w
plays_heads p s (value v ∷ cs) xs h g w = and_from _ _ (and_from _ _ (lt-ltb p places h) (le-leb s alterations g)) (plays_heads p 0 cs xs h (omega arith) w)

plays_rests : (cs : List Chunk) (xs : List Symbol) → all_play xs ≡ true → all_play (rests cs ++ xs) ≡ true
unfolding rests all_play
plays_rests [] xs w = w
plays_rests (line ∷ cs) xs w = plays_rests cs xs w
plays_rests (value v ∷ cs) xs w = plays_rests cs xs w

plays_print : (k b o : ℕ) (st : ℕ → ℕ) (es : List Event) → all_fine es ≡ true → all_play (print k b o st es) ≡ true
unfolding print all_play all_fine fine
plays_print k b o st [] f = refl
plays_print k b o st (note p a d ∷ es) f =
    let g = and_parts _ _ (and_parts _ _ (and_parts _ _ f).0).0 in
    let l = ltb-true p places g.0 in
    let m = ltb-true a alterations g.1 in
    plays_heads p (sign_of st p a) (chunks (suc d) b o d) _ l (pick_both (λ (x : ℕ). x ≤ alterations) (eqb (st p) a) 0 (suc a) (λ _. omega arith) (λ _. omega arith)) (plays_print k b ((o + d) % b) _ es (and_parts _ _ f).1)
plays_print k b o st (silence d ∷ es) f = plays_rests (chunks (suc d) b o d) _ (plays_print k b ((o + d) % b) _ es (and_parts _ _ f).1)

pub plays_printed : (k b : ℕ) (es : List Event) → all_fine es ≡ true → all_play (printed k b es) ≡ true
plays_printed k b es f = plays_print k b 0 (key k) es f

-- and no event is more than one note
pub few_notes : (es : List Event) (t : ℕ) → length (heard es t) ≤ length es
unfolding heard
few_notes [] t = omega arith
few_notes (note p a d ∷ es) t = let i = few_notes es (t + d) in omega arith
few_notes (silence d ∷ es) t = let i = few_notes es (t + d) in omega arith

-- there are no more events than lengths, whatever the other rows have
pub few_events : (ps xs ds : List ℕ) → length (voice_of ps xs ds) ≤ length ds
unfolding voice_of
few_events [] xs ds = omega arith
few_events (p ∷ ps) [] ds = omega arith
few_events (p ∷ ps) (x ∷ xs) [] = omega arith
few_events (p ∷ ps) (x ∷ xs) (d ∷ ds) = let i = few_events ps xs ds in omega arith

-- the bars of a voice are more than it fills
pub bars_more : (b t : ℕ) → 0 < b → t < (t / b + 1) * b
bars_more b t h = (div-lt_iff_lt-mul {x = t} h).0 (omega arith)

-- the part of the page that was written
pub front_of : (out was bs : List ℕ) (n : ℕ) → out ≡ bs ++ drop n was → n ≡ length bs → take (n - 0) out ≡ bs
front_of out was bs n e l =
    let z : n - 0 ≡ n = omega arith in
    ap (λ (i : ℕ). take i out) z ∙ ap (take n) e ∙ take_at bs (drop n was) n (sym l)

-- how much there is to print
pub room_for : (r : Rows) (y : Layout) (page signs notes n : ℕ) → Checked r y page signs notes n → (length (shown y.key y.bar (voice_in r) 0 n) ≤ page) × (length (shown y.key y.bar (voice_in r) 0 n) ≤ 2 ^ 40)
room_for r y page signs notes n k =
    let f = shown_fits y.key y.bar (voice_in r) 0 n k.ready.some k.ready.thirds k.ready.fine in
    let m : n * (y.bar / 3 + 1) ≤ n * 257 = mul-le-mul_left n (let z : y.bar / 3 + 1 ≤ 257 = omega (arith, k.fits.most) in z) in
    let d = div-le_self (total (voice_in r)) y.bar in
    let b = k.bars in
    (omega (arith, k.room), omega (arith, k.short))

-- what the reader is given, once it is printed
pub record Printed (r : Rows) (y : Layout) (page : List ℕ) : Type 0 where
  pub symbols : symbols_of page ≡ printed y.key y.bar (voice_in r)
  pub hears : read_from y.key (symbols_of page) ≡ heard (voice_in r) 0
  pub to_end : outcome y.key page ≡ Ok (length (heard (voice_in r) 0))
  pub few : length (read_from y.key (symbols_of page)) ≤ length r.lengths.now

pub shown_is : (r : Rows) (y : Layout) (page signs notes n : ℕ) → Checked r y page signs notes n → shown y.key y.bar (voice_in r) 0 n ≡ page_of r y
shown_is r y page signs notes n k =
    let m : total (voice_in r) < n * y.bar = subst (λ (i : ℕ). total (voice_in r) < i * y.bar) (sym k.bars) (bars_more y.bar (total (voice_in r)) k.ready.some) in
    ap symbols_bytes (whole_is y.key y.bar n (voice_in r) k.ready.some k.ready.thirds k.ready.fine m)

pub printed_so : (r : Rows) (y : Layout) (page signs notes n : ℕ) (bs : List ℕ) → Checked r y page signs notes n → bs ≡ shown y.key y.bar (voice_in r) 0 n → Printed r y bs
printed_so r y page signs notes n bs k e =
    let w : bs ≡ page_of r y = e ∙ shown_is r y page signs notes n k in
    let s : symbols_of bs ≡ printed y.key y.bar (voice_in r) = ap symbols_of w ∙ symbols_back (printed y.key y.bar (voice_in r)) (plays_printed y.key y.bar (voice_in r) k.ready.fine) in
    let h : read_from y.key (symbols_of bs) ≡ heard (voice_in r) 0 = ap (read_from y.key) s ∙ reads_back y.key y.bar (voice_in r) k.ready.some k.ready.thirds k.ready.fine in
    let l : length bs ≡ 5 * length (symbols_of bs) = ap length w ∙ length_symbols (printed y.key y.bar (voice_in r)) ∙ ap (λ (xs : List Symbol). 5 * length xs) (sym s) in
    let n = few_notes (voice_in r) 0 in
    let m = length_voice r.places.now r.alterations.now r.lengths.now k.ready.same_places k.ready.same_alterations in
    record {
      symbols = s;
      hears = h;
      to_end = pick_false _ _ _ (le-ltb (5 * length (symbols_of bs)) (length bs) (omega arith)) ∙ ap (λ (hs : List Heard). Ok (length hs)) h;
      few = omega (arith, ap length h);
    }

-- and what is answered then
pub answered_so : (r : Rows) (y : Layout) (page signs notes n b m : ℕ) → Ok n ≡ bars_or_refusal r y page signs notes → b ≡ length (page_of r y) → m ≡ length (heard (voice_in r) 0) → Ok (record { bytes = b; notes = m }) ≡ answered r y page signs notes
answered_so r y page signs notes n b m e f g =
    ap₂ (λ (i j : ℕ). unless_refused (Ok n) (record { bytes = i; notes = j })) f g
    ∙ ap (λ (q : Result ℕ Refusal). unless_refused q (record { bytes = length (page_of r y); notes = length (heard (voice_in r) 0) })) e
