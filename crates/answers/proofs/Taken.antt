-- A row that is taken from bytes, one by one. Assumes nothing.
use Rattle.std.proofs.Common.{◌≡◌, ℕ, suc, ◌+◌, ◌-◌, ◌<◌, ◌≤◌, List, [], ◌∷◌, ◌++◌, map, length, take, drop, Some, None, Option, sym, refl, ap, ◌∙◌, append_assoc, arith}
use Rattle.std.proofs.lemmas.List.{append-nil, map-append, take_rest}
use Rattle.wire.specs.Reading.{before, row_of}

-- those that were taken, ahead of those that are left
abbrev pub ahead : {A : Type 0} → List A → Option (List A) → Option (List A)
ahead xs None = None
ahead xs (Some ys) = Some (xs ++ ys)

ahead_one : {A : Type 0} (xs : List A) (x : A) (o : Option (List A)) → ahead (xs ++ (x ∷ [])) o ≡ ahead xs (before (Some x) o)
ahead_one xs x None = refl
ahead_one xs x (Some ys) = ap Some (append_assoc xs (x ∷ []) ys)

ahead_none : {A : Type 0} (o : Option (List A)) → ahead [] o ≡ o
ahead_none None = refl
ahead_none (Some ys) = refl

-- one more was taken and pushed behind those before, as the code has them
pub take_more :
    {A B : Type 0} (f : List ℕ → Option A) (g : B → A) (w n i : ℕ) (is js : List B) (x : B) (bs : List ℕ) (whole : Option (List A))
    → i < n → Some (g x) ≡ f bs → js ≡ is ++ (x ∷ []) → ahead (map g is) (row_of f w (n - i) bs) ≡ whole
    → ahead (map g js) (row_of f w (n - (i + 1)) (take (length bs - w) (drop w bs))) ≡ whole
unfolding row_of
take_more {A = A} f g w n i is js x bs whole h e s inv =
    let z : n - i ≡ suc (n - (i + 1)) = omega arith in
    ap (λ (r : List ℕ). ahead (map g js) (row_of f w (n - (i + 1)) r)) (take_rest bs w)
    ∙ ap (λ (q : List A). ahead q (row_of f w (n - (i + 1)) (drop w bs))) (ap (map g) s ∙ map-append g is (x ∷ []))
    ∙ ahead_one (map g is) (g x) (row_of f w (n - (i + 1)) (drop w bs))
    ∙ ap (λ (o : Option A). ahead (map g is) (before o (row_of f w (n - (i + 1)) (drop w bs)))) e
    ∙ ap (λ m. ahead (map g is) (row_of f w m bs)) (sym z)
    ∙ inv

pub take_first :
    {A B : Type 0} (f : List ℕ → Option A) (g : B → A) (w n : ℕ) (is : List B) (bs : List ℕ) → is ≡ [] → ahead (map g is) (row_of f w (n - 0) bs) ≡ row_of f w n bs
take_first f g w n is bs e =
    let z : n - 0 ≡ n = omega arith in
    ap (λ q. ahead (map g q) (row_of f w (n - 0) bs)) e ∙ ahead_none (row_of f w (n - 0) bs) ∙ ap (λ m. row_of f w m bs) z

pub take_none :
    {A : Type 0} (f : List ℕ → Option A) (w n i : ℕ) (xs : List A) (bs : List ℕ) (whole : Option (List A))
    → i < n → None ≡ f bs → ahead xs (row_of f w (n - i) bs) ≡ whole → None ≡ whole
unfolding row_of
take_none {A = A} f w n i xs bs whole h e inv =
    let z : n - i ≡ suc (n - (i + 1)) = omega arith in
    ap (λ (o : Option A). ahead xs (before o (row_of f w (n - (i + 1)) (drop w bs)))) e
    ∙ ap (λ m. ahead xs (row_of f w m bs)) (sym z)
    ∙ inv

pub take_all :
    {A : Type 0} (f : List ℕ → Option A) (w n i : ℕ) (xs : List A) (bs : List ℕ) (whole : Option (List A))
    → n ≤ i → ahead xs (row_of f w (n - i) bs) ≡ whole → Some xs ≡ whole
unfolding row_of
take_all f w n i xs bs whole h inv =
    let z : n - i ≡ 0 = omega arith in
    ap Some (sym (append-nil xs)) ∙ ap (λ m. ahead xs (row_of f w m bs)) (sym z) ∙ inv
