-- From a bar on: what is printed there is what is left once so many ticks are passed over. Assumes nothing.
use Rattle.std.proofs.Common.{◌≡◌, ℕ, zero, suc, ◌+◌, ◌-◌, ◌*◌, ◌%◌, ◌<◌, ◌≤◌, Bool, true, false, eqb, leb, ◌⊎◌, List, [], ◌∷◌, ◌++◌, length, get_or, take, drop, sym, refl, ap, ◌∙◌, ap₂, inl, inr, mod-eq_of_lt, arith}
use native.Mathlib.Nat.{mod_self}
use Rattle.std.proofs.lemmas.List.{drop-drop, length-take-le, take-append-drop}
use Rattle.std.proofs.lemmas.Bool.{ne_eqb, le-leb, lt-leb, cases_lt, and_parts}
use Rattle.score.specs.Music.{pick, Event, lasts, total, all_fine}
use Rattle.score.specs.Print.{Symbol, head, rest, pieces, Chunk, line, as_values, chunks, has_value, from_bar}
use Rattle.score.proofs.Picks.{pick_true, pick_false}
use Rattle.laws.specs.Owed.{one, drawn, place_of, signed, going, owed, rest_from}
use Rattle.laws.proofs.Events.{fine_lasts}
use Rattle.laws.proofs.Pieces.{Begins, pieces_begin}
use Rattle.laws.proofs.Laid.{next_below, next_three, next_over}
use Rattle.laws.proofs.Steps.{chunks_none, chunks_here, chunks_over, chunks_fuel}
use Rattle.laws.proofs.Owing.{begins}

-- what is passed over on the way to the next line
one_passed : (n p s v : ℕ) (t : Bool) (xs : List Symbol) → from_bar (suc n) (one p s v t ∷ xs) ≡ from_bar (suc n) xs
unfolding from_bar
one_passed n p s v t xs = go (eqb p 70)
  where
    go : (c : Bool) → from_bar (suc n) (pick c (rest v) (head p s v t) ∷ xs) ≡ from_bar (suc n) xs
    go true = refl
    go false = refl

values_passed : (n p s : ℕ) (vs : List ℕ) (xs : List Symbol) → from_bar (suc n) (drawn p s (as_values vs) ++ xs) ≡ from_bar (suc n) xs
unfolding drawn as_values
values_passed n p s [] xs = refl
values_passed n p s (v ∷ vs) xs = one_passed n p s v (has_value (as_values vs)) (drawn p 0 (as_values vs) ++ xs) ∙ values_passed n p 0 vs xs

to_line : (n p : ℕ) (vs : List ℕ) (cs : List Chunk) (xs : List Symbol) → from_bar (suc n) (drawn p 0 (as_values vs ++ (line ∷ cs)) ++ xs) ≡ from_bar n (drawn p 0 cs ++ xs)
unfolding drawn as_values from_bar
to_line n p [] cs xs = refl
to_line n p (v ∷ vs) cs xs = one_passed n p 0 v (has_value (as_values vs ++ (line ∷ cs))) (drawn p 0 (as_values vs ++ (line ∷ cs)) ++ xs) ∙ to_line n p vs cs xs

first_bar : (n p s : ℕ) (vs : List ℕ) (cs : List Chunk) (xs : List Symbol) → Begins vs → from_bar (suc n) (drawn p s (as_values vs ++ (line ∷ cs)) ++ xs) ≡ from_bar n (drawn p 0 cs ++ xs)
unfolding drawn as_values
first_bar n p s vs cs xs g =
    ap (λ (ws : List ℕ). from_bar (suc n) (drawn p s (as_values ws ++ (line ∷ cs)) ++ xs)) g.2
    ∙ one_passed n p s g.0 (has_value (as_values g.1 ++ (line ∷ cs))) (drawn p 0 (as_values g.1 ++ (line ∷ cs)) ++ xs)
    ∙ to_line n p g.1 cs xs

-- the bar in which an event begins is passed, and what is behind its line is left
bar_passed : (f n p s b o d : ℕ) (xs : List Symbol) → o < b → b ≤ o + d → b % 3 ≡ 0 → o % 3 ≡ 0 →
    from_bar (suc n) (drawn p s (chunks (suc f) b o d) ++ xs) ≡ from_bar n (drawn p 0 (chunks f b 0 (d - (b - o))) ++ xs)
bar_passed f n p s b o d xs h l b3 o3 =
    ap (λ (cs : List Chunk). from_bar (suc n) (drawn p s cs ++ xs)) (chunks_over f b o d (b - o) (omega arith) (omega arith) (omega arith))
    ∙ first_bar n p s (pieces (b - o) (b - o)) (chunks f b 0 (d - (b - o))) xs (pieces_begin (b - o) (omega arith) (omega arith))

-- an event that ends before the bar asked for, or where it begins: m bars behind the event's end
abbrev Passed : ℕ → ℕ → ℕ → ℕ → ℕ → ℕ → ℕ → ℕ → List Symbol → Type 0
Passed f n p s b o d t xs =
    (m : ℕ) × (m * b ≡ (o + d) % b + (t - d)) × (from_bar (suc n) (drawn p s (chunks f b o d) ++ xs) ≡ from_bar m xs)

passed : (f n p s b o d t : ℕ) (xs : List Symbol) → d < f → o < b → b % 3 ≡ 0 → o % 3 ≡ 0 → suc n * b ≡ o + t → d ≤ t → Passed f n p s b o d t xs
unfolding drawn from_bar
passed zero n p s b o d t xs h l b3 o3 e le = absurd (omega arith)
passed (suc f) n p s b o d t xs h l b3 o3 e le =
    go (cases_lt (o + d) b) (λ m eq lt q. passed f m p 0 b 0 (d - (b - o)) (t - (b - o)) xs lt (omega arith) b3 refl eq q)
  where
    Less : Type 0
    Less = (m : ℕ) → suc m * b ≡ 0 + (t - (b - o)) → d - (b - o) < f → d - (b - o) ≤ t - (b - o) → Passed f m p 0 b 0 (d - (b - o)) (t - (b - o)) xs

    over : (n : ℕ) → suc n * b ≡ o + t → b ≤ o + d → Less → Passed (suc f) n p s b o d t xs
    over zero e q ih =
        let z : o + d ≡ b = omega arith in
        let y : d - (b - o) ≡ 0 = omega arith in
        let m : (o + d) % b ≡ 0 = ap (λ (x : ℕ). x % b) z ∙ mod_self b in (
          0,
          omega arith,
          bar_passed f 0 p s b o d xs l q b3 o3 ∙ ap (λ (cs : List Chunk). drawn p 0 cs ++ xs) (ap (chunks f b 0) y ∙ chunks_none f b 0),
        )
    over (suc n) e q ih =
        let r = ih n (omega arith) (omega arith) (omega arith) in
        let m = next_over b o d (b - o) (omega arith) (omega arith) in
        (r.0, omega (arith, r.1), bar_passed f (suc n) p s b o d xs l q b3 o3 ∙ r.2)

    go : (o + d < b) ⊎ (b ≤ o + d) → Less → Passed (suc f) n p s b o d t xs
    go (inl q) ih =
        let m : (o + d) % b ≡ o + d = mod-eq_of_lt q in
        (suc n, omega arith, ap (λ (cs : List Chunk). from_bar (suc n) (drawn p s cs ++ xs)) (chunks_here f b o d q) ∙ values_passed n p s (pieces d d) xs)
    go (inr q) ih = over n e q ih

-- an event that goes on into the bar asked for: what is left of it there
abbrev Reaches : ℕ → ℕ → ℕ → ℕ → ℕ → ℕ → ℕ → ℕ → List Symbol → Type 0
Reaches f n p s b o d t xs =
    (from_bar (suc n) (drawn p s (chunks f b o d) ++ xs) ≡ drawn p 0 (chunks (suc (d - t)) b 0 (d - t)) ++ xs)
    × ((o + d) % b ≡ (0 + (d - t)) % b)

reaches : (f n p s b o d t : ℕ) (xs : List Symbol) → d < f → o < b → b % 3 ≡ 0 → o % 3 ≡ 0 → suc n * b ≡ o + t → t < d → Reaches f n p s b o d t xs
unfolding from_bar
reaches zero n p s b o d t xs h l b3 o3 e lt = absurd (omega arith)
reaches (suc f) n p s b o d t xs h l b3 o3 e lt =
    over n e (omega arith) (λ m eq y q. reaches f m p 0 b 0 (d - (b - o)) (t - (b - o)) xs y (omega arith) b3 refl eq q)
  where
    Less : Type 0
    Less = (m : ℕ) → suc m * b ≡ 0 + (t - (b - o)) → d - (b - o) < f → t - (b - o) < d - (b - o) → Reaches f m p 0 b 0 (d - (b - o)) (t - (b - o)) xs

    over : (n : ℕ) → suc n * b ≡ o + t → b ≤ o + d → Less → Reaches (suc f) n p s b o d t xs
    over zero e q ih =
        let z : d - (b - o) ≡ d - t = omega arith in (
          bar_passed f 0 p s b o d xs l q b3 o3
              ∙ ap (λ (cs : List Chunk). drawn p 0 cs ++ xs) (ap (chunks f b 0) z ∙ chunks_fuel f (suc (d - t)) b 0 (d - t) (omega arith) (omega arith) (omega arith)),
          next_over b o d (b - o) (omega arith) (omega arith) ∙ ap (λ (x : ℕ). (0 + x) % b) z,
        )
    over (suc n) e q ih =
        let r = ih n (omega arith) (omega arith) (omega arith) in
        let z : d - (b - o) - (t - (b - o)) ≡ d - t = omega arith in (
          bar_passed f (suc n) p s b o d xs l q b3 o3 ∙ r.0 ∙ ap (λ (x : ℕ). drawn p 0 (chunks (suc x) b 0 x) ++ xs) z,
          next_over b o d (b - o) (omega arith) (omega arith) ∙ r.1 ∙ ap (λ (x : ℕ). (0 + x) % b) z,
        )

pub rest_none : (b o : ℕ) (es : List Event) (sg : List ℕ) → o < b → all_fine es ≡ true → rest_from b 0 o es sg ≡ signed b o es sg
unfolding rest_from all_fine signed
rest_none b o [] sg h f = refl
rest_none b o (e ∷ es) sg h f =
    let z : lasts e - 0 ≡ lasts e = omega arith in
    pick_false _ _ _ (lt-leb (lasts e) 0 (fine_lasts e (and_parts _ _ f).0).0) ∙ ap (λ (d : ℕ). owed b o (place_of e) (get_or sg 0 0) d es (drop 1 sg)) z ∙ sym (begins b o e es sg h)

walked : (b o n t : ℕ) (es : List Event) (sg : List ℕ) → o < b → b % 3 ≡ 0 → o % 3 ≡ 0 → all_fine es ≡ true → suc n * b ≡ o + t →
    from_bar (suc n) (signed b o es sg) ≡ rest_from b t 0 es sg
unfolding rest_from all_fine signed from_bar going owed
walked b o n t [] sg h b3 o3 f e = refl
walked b o n t (x ∷ es) sg h b3 o3 f e =
    go (cases_lt t (lasts x)) (λ m eq. walked b ((o + lasts x) % b) m (t - lasts x) es (drop 1 sg) (next_below b (o + lasts x) (omega arith)) b3 (next_three b (o + lasts x) b3 (omega (arith, g.1))) (and_parts _ _ f).1 eq)
  where
    g : (0 < lasts x) × (lasts x % 3 ≡ 0)
    g = fine_lasts x (and_parts _ _ f).0

    cs : List Chunk
    cs = chunks (suc (lasts x)) b o (lasts x)

    zs : List Symbol
    zs = signed b ((o + lasts x) % b) es (drop 1 sg)

    Less : Type 0
    Less = (m : ℕ) → suc m * b ≡ (o + lasts x) % b + (t - lasts x) → from_bar (suc m) zs ≡ rest_from b (t - lasts x) 0 es (drop 1 sg)

    over : Less → (m : ℕ) → m * b ≡ (o + lasts x) % b + (t - lasts x) → from_bar m zs ≡ rest_from b (t - lasts x) 0 es (drop 1 sg)
    over ih (suc m) eq = ih m eq
    over ih zero eq =
        let z : (o + lasts x) % b ≡ 0 = omega arith in
        let y : t - lasts x ≡ 0 = omega arith in
        ap (λ (i : ℕ). signed b i es (drop 1 sg)) z
        ∙ sym (rest_none b 0 es (drop 1 sg) (omega arith) (and_parts _ _ f).1)
        ∙ ap (λ (i : ℕ). rest_from b i 0 es (drop 1 sg)) (sym y)

    go : (t < lasts x) ⊎ (lasts x ≤ t) → Less →
        from_bar (suc n) (drawn (place_of x) (get_or sg 0 0) cs ++ zs)
        ≡ pick (leb (lasts x) t) (rest_from b (t - lasts x) 0 es (drop 1 sg)) (owed b 0 (place_of x) (pick (eqb t 0) (get_or sg 0 0) 0) (lasts x - t) es (drop 1 sg))
    go (inr le) ih =
        let r = passed (suc (lasts x)) n (place_of x) (get_or sg 0 0) b o (lasts x) t zs (omega arith) h b3 o3 e le in
        r.2 ∙ over ih r.0 r.1 ∙ sym (pick_true _ _ _ (le-leb (lasts x) t le))
    go (inl lt) ih =
        let r = reaches (suc (lasts x)) n (place_of x) (get_or sg 0 0) b o (lasts x) t zs (omega arith) h b3 o3 e lt in
        let w : pick (eqb t 0) (get_or sg 0 0) 0 ≡ 0 = pick_false _ _ _ (ne_eqb t 0 (λ z. omega arith)) in
        r.0
        ∙ ap (λ (i : ℕ). drawn (place_of x) 0 (chunks (suc (lasts x - t)) b 0 (lasts x - t)) ++ signed b i es (drop 1 sg)) r.1
        ∙ sym (pick_false _ _ _ (lt-leb (lasts x) t lt) ∙ ap (λ (s : ℕ). owed b 0 (place_of x) s (lasts x - t) es (drop 1 sg)) w ∙ pick_false _ _ _ (ne_eqb 0 b (λ z. omega arith)))

pub from_bar_walks : (b n : ℕ) (es : List Event) (sg : List ℕ) → 0 < b → b % 3 ≡ 0 → all_fine es ≡ true → from_bar n (signed b 0 es sg) ≡ rest_from b (n * b) 0 es sg
unfolding from_bar
from_bar_walks b zero es sg h b3 f = sym (ap (λ (t : ℕ). rest_from b t 0 es sg) (let z : 0 * b ≡ 0 = omega arith in z) ∙ rest_none b 0 es sg h f)
from_bar_walks b (suc n) es sg h b3 f = walked b 0 n (suc n * b) es sg h b3 refl f (omega arith)

-- events that end in the ticks that are passed over are taken away, whatever they are
pub rest_behind : (b t o : ℕ) (es gs : List Event) (sg : List ℕ) → total es ≤ t → rest_from b t o (es ++ gs) sg ≡ rest_from b (t - total es) o gs (drop (length es) sg)
unfolding rest_from total
rest_behind b t o [] gs sg l = let z : t ≡ t - 0 = omega arith in ap (λ (x : ℕ). rest_from b x o gs sg) z
rest_behind b t o (e ∷ es) gs sg l =
    let m : t - lasts e - total es ≡ t - (lasts e + total es) = omega arith in
    let n : 1 + length es ≡ length (e ∷ es) = omega arith in
    pick_true _ _ _ (le-leb (lasts e) t (omega arith))
    ∙ rest_behind b (t - lasts e) o es gs (drop 1 sg) (omega arith)
    ∙ ap₂ (λ (x : ℕ) (ss : List ℕ). rest_from b x o gs ss) m (drop-drop (length es) 1 sg ∙ ap (λ (i : ℕ). drop i sg) n)

pub rest_passed : (b t o j : ℕ) (es : List Event) (sg : List ℕ) → j ≤ length es → total (take j es) ≤ t → rest_from b t o es sg ≡ rest_from b (t - total (take j es)) o (drop j es) (drop j sg)
rest_passed b t o j es sg h l =
    ap (λ (xs : List Event). rest_from b t o xs sg) (sym (take-append-drop j es))
    ∙ rest_behind b t o (take j es) (drop j es) sg l
    ∙ ap (λ (i : ℕ). rest_from b (t - total (take j es)) o (drop j es) (drop i sg)) (length-take-le j es h)
