-- Bars before a change stay as they are, and so do bars after a change that is as long as what was there. Assumes nothing.
use Rattle.std.proofs.Common.{◌≡◌, ℕ, zero, suc, ◌+◌, ◌-◌, ◌*◌, ◌%◌, ◌<◌, ◌≤◌, true, List, [], ◌∷◌, ◌++◌, sym, refl, ap, ◌∙◌, append_assoc, arith}
use native.Mathlib.Nat.{mul-mod_left}
use Rattle.score.specs.Music.{Event, note, silence, total, all_fine}
use Rattle.score.specs.Print.{Symbol, bar, head, rest, key, chunks, heads, rests, now, print, printed, from_bar, so_many}
use Rattle.score.specs.Promise.{BarsStay, BarsAfter}
use Rattle.laws.specs.Owed.{sign_of, holding, rest_from}
use Rattle.laws.proofs.Events.{fine_parts, total-++}
use Rattle.laws.proofs.Bars.{marks, lines, lines_enough}
use Rattle.laws.proofs.Walk.{from_bar_walks, rest_behind}
use Rattle.laws.proofs.Onsets.{signs}
use Rattle.laws.proofs.Signed.{printed_signed, behind_renewed}

-- what is printed of events comes first in what is printed of more events
print_front : (k b o : ℕ) (st : ℕ → ℕ) (es ds : List Event) → (ys : List Symbol) × (print k b o st (es ++ ds) ≡ print k b o st es ++ ys)
unfolding print
print_front k b o st [] ds = (print k b o st ds, refl)
print_front k b o st (note p a d ∷ es) ds =
    let r = print_front k b ((o + d) % b) (holding k (chunks (suc d) b o d) (now st p a)) es ds in
    (r.0, ap (λ (xs : List Symbol). heads p (sign_of st p a) (chunks (suc d) b o d) ++ xs) r.1 ∙ sym (append_assoc (heads p (sign_of st p a) (chunks (suc d) b o d)) _ r.0))
print_front k b o st (silence d ∷ es) ds =
    let r = print_front k b ((o + d) % b) (holding k (chunks (suc d) b o d) st) es ds in
    (r.0, ap (λ (xs : List Symbol). rests (chunks (suc d) b o d) ++ xs) r.1 ∙ sym (append_assoc (rests (chunks (suc d) b o d)) _ r.0))

so_many_front : (xs ys : List Symbol) (n : ℕ) → n ≤ lines (marks xs) → so_many (xs ++ ys) n ≡ so_many xs n
unfolding so_many lines marks
so_many_front xs ys zero l = refl
so_many_front [] ys (suc n) l = absurd (omega arith)
so_many_front (bar ∷ xs) ys (suc n) l = ap (λ (r : List Symbol). bar ∷ r) (so_many_front xs ys n (omega arith))
so_many_front (head p s v t ∷ xs) ys (suc n) l = ap (λ (r : List Symbol). head p s v t ∷ r) (so_many_front xs ys (suc n) l)
so_many_front (rest v ∷ xs) ys (suc n) l = ap (λ (r : List Symbol). rest v ∷ r) (so_many_front xs ys (suc n) l)

-- so the full bars of some events are those of any voice that begins with them
pub front_stays : (k b n : ℕ) (es ds : List Event) → 0 < b → b % 3 ≡ 0 → all_fine es ≡ true → n * b ≤ total es → so_many (printed k b (es ++ ds)) n ≡ so_many (printed k b es) n
front_stays k b n es ds h b3 f l =
    let r = print_front k b 0 (key k) es ds in
    ap (λ (x : List Symbol). so_many x n) r.1 ∙ so_many_front (printed k b es) r.0 n (lines_enough k b n es h b3 f l)

pub bars_stay : BarsStay
bars_stay k b n es ds fs h b3 f l =
    front_stays k b n es ds h b3 (fine_parts es ds f).0 l ∙ sym (front_stays k b n es fs h b3 (fine_parts es ds f).0 l)

pub bars_after : BarsAfter
bars_after k b n es ds fs gs h b3 f g e l = behind ds f refl ∙ sym (behind fs g (sym e))
  where
    behind : (xs : List Event) → all_fine (es ++ (xs ++ gs)) ≡ true → total xs ≡ total ds →
        from_bar n (printed k b (es ++ (xs ++ gs))) ≡ rest_from b (n * b - (total es + total ds)) 0 gs (signs k b 0 ((total es + total ds) % b) (key k) gs)
    behind xs w e =
        let m : total (es ++ xs) ≡ total es + total ds = total-++ es xs ∙ ap (λ (x : ℕ). total es + x) e in
        let a : es ++ (xs ++ gs) ≡ (es ++ xs) ++ gs = sym (append_assoc es xs gs) in
        let v : all_fine ((es ++ xs) ++ gs) ≡ true = ap all_fine (sym a) ∙ w in
        ap (λ (ys : List Event). from_bar n (printed k b ys)) a
        ∙ ap (from_bar n) (printed_signed k b ((es ++ xs) ++ gs) h v)
        ∙ from_bar_walks b n ((es ++ xs) ++ gs) _ h b3 v
        ∙ rest_behind b (n * b) 0 (es ++ xs) gs _ (omega arith)
        ∙ behind_renewed k b (n * b) (es ++ xs) gs h (mul-mod_left n b) (fine_parts (es ++ xs) gs v).0 (fine_parts (es ++ xs) gs v).1 (omega arith)
        ∙ ap (λ (x : ℕ). rest_from b (n * b - x) 0 gs (signs k b 0 (x % b) (key k) gs)) m
