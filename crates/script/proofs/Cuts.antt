-- Lines cut from the front of a text, one by one. Assumes nothing.
use Rattle.std.proofs.Common.{◌≡◌, ℕ, zero, suc, ◌+◌, ◌-◌, ◌<◌, ◌≤◌, true, false, List, [], ◌∷◌, length, get_or, take, drop, position, Some, None, ◌==◌, sym, refl, ap, ◌∙◌, add-one, arith}
use Rattle.std.proofs.lemmas.List.{take_rest}
use Rattle.std.proofs.lemmas.Bool.{eq-eqb, ne_eqb, eqb-true, eqb-false}
use Rattle.std.proofs.lemmas.List.Quantifiers.{position-Some}
use Rattle.std.proofs.lemmas.List.Sums.{fails_before_first}
use Rattle.std.proofs.lemmas.Grind.{common_steps}
use Rattle.std.specs.List.{position_or_len}
use Rattle.score.proofs.Picks.{pick_true, pick_false}
use Rattle.script.specs.Lines.{line_end, onto, all_lines, says, saying, lines}

-- no line ends before place i
abbrev pub NoEnd : List ℕ → ℕ → Type 0
NoEnd xs i = (k : ℕ) → k < i → get_or xs k 0 ≡ line_end → ⊥

line_at : (xs : List ℕ) (i : ℕ) → i < length xs → NoEnd xs i → get_or xs i 0 ≡ line_end → all_lines xs ≡ take i xs ∷ all_lines (drop (suc i) xs)
unfolding all_lines
line_at [] i h free e = absurd (omega arith)
line_at (x ∷ xs) zero h free e = pick_true _ _ _ (eq-eqb _ _ e)
line_at (x ∷ xs) (suc i) h free e =
    pick_false _ _ _ (ne_eqb _ _ (free 0 (omega arith)))
    ∙ ap (onto x) (line_at xs i (omega arith) (λ k l. free (suc k) (omega arith)) e)

line_last : (xs : List ℕ) → 0 < length xs → NoEnd xs (length xs) → all_lines xs ≡ xs ∷ []
unfolding all_lines
line_last [] h free = absurd (omega arith)
line_last (x ∷ []) h free = pick_false _ _ _ (ne_eqb _ _ (free 0 (omega arith)))
line_last (x ∷ (y ∷ ys)) h free =
    pick_false _ _ _ (ne_eqb _ _ (free 0 (omega arith)))
    ∙ ap (onto x) (line_last (y ∷ ys) (omega arith) (λ k l. free (suc k) (omega arith)))

-- the same as the code has it
pub cut_at :
    (xs : List ℕ) (i : ℕ) → Some i ≡ position (λ x. x == line_end) xs
    → all_lines xs ≡ take i xs ∷ all_lines (take (length xs - (i + 1)) (drop (i + 1) xs))
cut_at xs i e =
    let f = position-Some (λ x. x == line_end) xs i 0 (sym e) in
    line_at xs i f.0 (λ k l. eqb-false _ _ (f.2 k l)) (eqb-true _ _ f.1)
    ∙ ap (λ n. take i xs ∷ all_lines (drop n xs)) (sym (add-one i))
    ∙ ap (λ (r : List ℕ). take i xs ∷ all_lines r) (sym (take_rest xs (i + 1)))

pub cut_last : (xs : List ℕ) → 0 < length xs → None ≡ position (λ x. x == line_end) xs → all_lines xs ≡ xs ∷ all_lines []
unfolding all_lines
cut_last xs h e =
    let far : length xs ≤ position_or_len (λ x. x == line_end) xs = grind (arith, common_steps) in
    line_last xs h (λ k l. eqb-false _ _ (fails_before_first (λ x. x == line_end) xs k 0 (omega arith)))

-- a line that says something is the next, and another is passed over
pub line_said : (xs line more : List ℕ) → all_lines xs ≡ line ∷ all_lines more → says line ≡ true → lines xs ≡ line ∷ lines more
unfolding saying
line_said xs line more e s = ap saying e ∙ pick_true _ _ _ s

pub line_passed : (xs line more : List ℕ) → all_lines xs ≡ line ∷ all_lines more → says line ≡ false → lines xs ≡ lines more
unfolding saying
line_passed xs line more e s = ap saying e ∙ pick_false _ _ _ s

pub lines_none : (xs : List ℕ) → length xs ≡ 0 → lines xs ≡ []
unfolding all_lines saying
lines_none [] e = refl
lines_none (x ∷ xs) e = absurd (omega arith)
