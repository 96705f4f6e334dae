-- Events that can be written: how long they are, alone and in a row. Assumes nothing.
use Rattle.std.proofs.Common.{◌≡◌, ℕ, ◌+◌, ◌%◌, ◌<◌, true, List, [], ◌∷◌, ◌++◌, take, drop, refl, ap, ◌∙◌, arith}
use Rattle.std.proofs.lemmas.List.{take-append-drop}
use Rattle.std.proofs.lemmas.Bool.{eqb-true, ltb-true, and_parts, and_from}
use Rattle.score.specs.Music.{Event, note, silence, lasts, total, fine, all_fine}

pub fine_lasts : (e : Event) → fine e ≡ true → (0 < lasts e) × (lasts e % 3 ≡ 0)
unfolding fine lasts
fine_lasts (note p a d) h =
    let f = and_parts _ _ (and_parts _ _ h).1 in
    (ltb-true 0 d (and_parts _ _ f.0).0, eqb-true _ 0 f.1)
fine_lasts (silence d) h =
    let f = and_parts _ _ h in
    (ltb-true 0 d (and_parts _ _ f.0).0, eqb-true _ 0 f.1)

pub fine_parts : (es ds : List Event) → all_fine (es ++ ds) ≡ true → (all_fine es ≡ true) × (all_fine ds ≡ true)
unfolding all_fine
fine_parts [] ds f = (refl, f)
fine_parts (e ∷ es) ds f = let r = fine_parts es ds (and_parts _ _ f).1 in (and_from _ _ (and_parts _ _ f).0 r.0, r.1)

pub fine_split : (i : ℕ) (es : List Event) → all_fine es ≡ true → (all_fine (take i es) ≡ true) × (all_fine (drop i es) ≡ true)
fine_split i es f = fine_parts (take i es) (drop i es) (ap all_fine (take-append-drop i es) ∙ f)

pub total_three : (es : List Event) → all_fine es ≡ true → total es % 3 ≡ 0
unfolding total all_fine
total_three [] f = refl
total_three (e ∷ es) f =
    let g = fine_lasts e (and_parts _ _ f).0 in
    let ih : total es % 3 ≡ 0 = total_three es (and_parts (fine e) (all_fine es) f).1 in
    omega arith

pub total-++ : (es ds : List Event) → total (es ++ ds) ≡ total es + total ds
unfolding total
total-++ [] ds = omega arith
total-++ (e ∷ es) ds = let ih = total-++ es ds in omega arith
