-- A row of texts, written one after the other. Assumes nothing.
use Rattle.std.proofs.Common.{◌≡◌, ℕ, ◌+◌, ◌<◌, ◌≤◌, List, [], ◌∷◌, ◌++◌, map, length, get_or, drop, Option, Some, IfOk, Result, sym, refl, ap, ◌∙◌, subst, append_assoc}
use Rattle.std.proofs.lemmas.List.{at_drop_more, at_drop_all, append-nil}
use Rattle.std.specs.Fmt.{AppendsText, ◌++?◌}
use Rattle.score.specs.Spelling.{spelled_row}

pub row_more :
    {A : Type 0} (f : A → List ℕ) (output : A → Option (List ℕ)) (lead between out new whole : List ℕ) (xs : List A) (i : ℕ) (x : A)
    → i < length xs → x ≡ get_or xs i x → output x ≡ Some (f x) → AppendsText out new (Some lead ++? output x)
    → out ++ spelled_row f lead between (drop i xs) ≡ whole → new ++ spelled_row f between between (drop (i + 1) xs) ≡ whole
unfolding spelled_row
row_more {A = A} f output lead between out new whole xs i x h is t s e =
    ap (λ (u : List ℕ). u ++ rest) appended
    ∙ append_assoc out (lead ++ f x) rest
    ∙ ap (λ (u : List ℕ). out ++ u) (append_assoc lead (f x) rest)
    ∙ ap (λ (y : A). out ++ (lead ++ (f y ++ rest))) is
    ∙ sym (at_drop_more (λ (ys : List A). out ++ spelled_row f lead between ys) xs i x h)
    ∙ e
  where
    rest : List ℕ
    rest = spelled_row f between between (drop (i + 1) xs)

    appended : new ≡ out ++ (lead ++ f x)
    appended = subst (λ (o : Option (List ℕ)). AppendsText out new (Some lead ++? o)) t s

pub row_over :
    {A : Type 0} (f : A → List ℕ) (lead between out whole : List ℕ) (xs : List A) (i : ℕ)
    → length xs ≤ i → out ++ spelled_row f lead between (drop i xs) ≡ whole → out ≡ whole
unfolding spelled_row
row_over {A = A} f lead between out whole xs i h e = sym (append-nil out) ∙ sym (at_drop_all (λ (ys : List A). out ++ spelled_row f lead between ys) xs i h) ∙ e

-- a row of what the code has is the row of what it means
pub row_meant :
    {A B : Type 0} (f : B → List ℕ) (g : A → B) (lead between : List ℕ) (xs : List A)
    → spelled_row (λ x. f (g x)) lead between xs ≡ spelled_row f lead between (map g xs)
unfolding spelled_row
row_meant f g lead between [] = refl
row_meant f g lead between (x ∷ xs) = ap (λ (r : List ℕ). lead ++ (f (g x) ++ r)) (row_meant f g between between xs)

pub retold : {A E : Type 0} (r : Result A E) (now was old new : List ℕ) → old ≡ new → IfOk r (λ _. now ≡ was ++ old) → IfOk r (λ _. now ≡ was ++ new)
retold r now was old new e h = subst (λ (x : List ℕ). IfOk r (λ _. now ≡ was ++ x)) e h
