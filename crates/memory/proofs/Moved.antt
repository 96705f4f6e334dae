-- One word in, one word out: as a copy within the words leaves it, and in a region that is padded with zeros. Assumes nothing.
use Rattle.std.proofs.Common.{◌≡◌, ℕ, suc, ◌+◌, ◌-◌, ◌<◌, ◌≤◌, List, [], ◌∷◌, ◌++◌, length, get_or, take, drop, set, replicate, sym, refl, ap, ◌∙◌, arith}
use lib.Seq.{paste}
use Rattle.std.specs.List.{insert, remove}
use Rattle.std.proofs.lemmas.List.{append_assoc, length-append, length-drop, length-take-le, length_push, length-set, set_at, set-append_left, set-append_right, take_more, drop_more, take_at, drop_at, take-append-drop}
use Rattle.std.proofs.lemmas.List.Edits.{length-insert, length-remove, length-between}
use Rattle.memory.specs.Store.{padded}
use Rattle.memory.specs.Moves.{shifted, closed}
use Rattle.memory.proofs.Changes.{split_at}

-- ---- by a copy within the words, and one word written

pub shift_is : (W : List ℕ) (at end x : ℕ) → at ≤ end → end < length W → set (paste W (at + 1) (drop at W) (end - at)) at x ≡ shifted W at end x
unfolding shifted
shift_is W at end x le lt =
    let M : List ℕ = take (end - at) (drop at W) in
    let D : List ℕ = drop (suc end) W in
    let n : at + 1 + (end - at) ≡ suc end = omega arith in
    let a : take (at + 1) W ≡ take at W ++ (get_or W at 0 ∷ []) = take_more W at 0 (omega arith) in
    let p : paste W (at + 1) (drop at W) (end - at) ≡ take at W ++ (get_or W at 0 ∷ (M ++ D)) =
    ap (λ y. (y ++ M) ++ drop (at + 1 + (end - at)) W) a ∙ (ap (λ k. ((take at W ++ (get_or W at 0 ∷ [])) ++ M) ++ drop k W) n ∙ regroup (take at W) M D (get_or W at 0)) in
    ap (λ y. set y at x) p ∙ set_at (take at W) (get_or W at 0) (M ++ D) x at (length-take-le at W (omega arith))
  where
    regroup : (a m d : List ℕ) (z : ℕ) → ((a ++ (z ∷ [])) ++ m) ++ d ≡ a ++ (z ∷ (m ++ d))
    regroup a m d z = simp append_assoc

pub close_is : (W : List ℕ) (at end : ℕ) → at < end → end ≤ length W → set (paste W at (drop (at + 1) W) (end - (at + 1))) (end - 1) 0 ≡ closed W at end
unfolding closed
close_is W at end lt le =
    let M : List ℕ = take (end - suc at) (drop (suc at) W) in
    let s : at + 1 ≡ suc at = omega arith in
    let n : at + (end - suc at) ≡ end - 1 = omega arith in
    let e : end - 1 + 1 ≡ end = omega arith in
    let m : length M ≡ end - suc at = length-between W (suc at) end le in
    let l : length (take at W ++ M) ≡ end - 1 = length-append (take at W) M ∙ omega (arith, length-take-le at W (omega arith)) in
    let d : drop (end - 1) W ≡ get_or W (end - 1) 0 ∷ drop end W = drop_more W (end - 1) 0 (omega arith) ∙ ap (λ k. get_or W (end - 1) 0 ∷ drop k W) e in
    let p : paste W at (drop (at + 1) W) (end - (at + 1)) ≡ (take at W ++ M) ++ (get_or W (end - 1) 0 ∷ drop end W) =
    ap (λ k. paste W at (drop k W) (end - k)) s ∙ (ap (λ k. (take at W ++ M) ++ drop k W) n ∙ ap (λ y. (take at W ++ M) ++ y) d) in
    ap (λ y. set y (end - 1) 0) p
    ∙ (set_at (take at W ++ M) (get_or W (end - 1) 0) (drop end W) 0 (end - 1) l
    ∙ append_assoc (take at W) M (0 ∷ drop end W))

-- ---- in a region of n words, of which those of xs are in use

shifted_at : (P M T : List ℕ) (z x at end : ℕ) → length P ≡ at → length P + length M ≡ end → shifted (P ++ (M ++ (z ∷ T))) at end x ≡ P ++ (x ∷ (M ++ T))
unfolding shifted
shifted_at P M T z x at end ea ee =
    let W : List ℕ = P ++ (M ++ (z ∷ T)) in
    let a : take at W ≡ P = take_at P (M ++ (z ∷ T)) at ea in
    let b : drop at W ≡ M ++ (z ∷ T) = drop_at P (M ++ (z ∷ T)) at ea in
    let c : take (end - at) (M ++ (z ∷ T)) ≡ M = take_at M (z ∷ T) (end - at) (omega arith) in
    let g : W ≡ ((P ++ M) ++ (z ∷ [])) ++ T = sym (append_assoc (P ++ M) (z ∷ []) T ∙ append_assoc P M (z ∷ T)) in
    let d : drop (suc end) W ≡ T = ap (λ w. drop (suc end) w) g ∙ drop_at ((P ++ M) ++ (z ∷ [])) T (suc end) (omega (arith, length_push (P ++ M) z, length-append P M)) in
    cc

pub shift_padded : (A B xs : List ℕ) (n j x at end : ℕ) → length xs < n → j ≤ length xs → length A + j ≡ at → length A + length xs ≡ end → shifted (A ++ (padded n xs ++ B)) at end x ≡ A ++ (padded n (insert xs j x) ++ B)
unfolding padded
shift_padded A B xs n j x at end lt le ea ee =
    let m : ℕ = n - suc (length xs) in
    let Z : List ℕ = replicate m 0 in
    let e0 : n - length xs ≡ suc m = omega arith in
    let e1 : n - length (insert xs j x) ≡ m = omega (arith, length-insert xs j x le) in
    let lt1 : length (take j xs) ≡ j = length-take-le j xs le in
    let ld1 : length (drop j xs) ≡ length xs - j = length-drop j xs in
    let lp : length (A ++ take j xs) ≡ at = length-append A (take j xs) ∙ omega arith in
    let from : A ++ ((xs ++ replicate (n - length xs) 0) ++ B) ≡ (A ++ take j xs) ++ (drop j xs ++ (0 ∷ (Z ++ B))) =
    ap (λ k. A ++ ((xs ++ replicate k 0) ++ B)) e0
    ∙ (ap (λ y. A ++ ((y ++ (0 ∷ Z)) ++ B)) (sym (take-append-drop j xs)) ∙ simp append_assoc) in
    let last : (A ++ take j xs) ++ (x ∷ (drop j xs ++ (Z ++ B))) ≡ A ++ ((insert xs j x ++ Z) ++ B) = simp append_assoc in
    ap (λ w. shifted w at end x) from
    ∙ (shifted_at (A ++ take j xs) (drop j xs) (Z ++ B) 0 x at end lp (omega arith)
    ∙ (last ∙ ap (λ k. A ++ ((insert xs j x ++ replicate k 0) ++ B)) (sym e1)))

closed_at : (P M T : List ℕ) (z at end : ℕ) → length P ≡ at → suc (length P + length M) ≡ end → closed (P ++ (z ∷ (M ++ T))) at end ≡ P ++ (M ++ (0 ∷ T))
unfolding closed
closed_at P M T z at end ea ee =
    let W : List ℕ = P ++ (z ∷ (M ++ T)) in
    let a : take at W ≡ P = take_at P (z ∷ (M ++ T)) at ea in
    let g : W ≡ (P ++ (z ∷ [])) ++ (M ++ T) = sym (append_assoc P (z ∷ []) (M ++ T)) in
    let lp = length_push P z in
    let b : drop (suc at) W ≡ M ++ T = ap (λ w. drop (suc at) w) g ∙ drop_at (P ++ (z ∷ [])) (M ++ T) (suc at) (omega arith) in
    let c : take (end - suc at) (M ++ T) ≡ M = take_at M T (end - suc at) (omega arith) in
    let g2 : W ≡ ((P ++ (z ∷ [])) ++ M) ++ T = g ∙ sym (append_assoc (P ++ (z ∷ [])) M T) in
    let d : drop end W ≡ T = ap (λ w. drop end w) g2 ∙ drop_at ((P ++ (z ∷ [])) ++ M) T end (omega (arith, length-append (P ++ (z ∷ [])) M)) in
    cc

pub close_padded : (A B xs : List ℕ) (n j at end : ℕ) → length xs ≤ n → j < length xs → length A + j ≡ at → length A + length xs ≡ end → closed (A ++ (padded n xs ++ B)) at end ≡ A ++ (padded n (remove xs j) ++ B)
unfolding padded
close_padded A B xs n j at end le lt ea ee =
    let Z : List ℕ = replicate (n - length xs) 0 in
    let e1 : n - length (remove xs j) ≡ suc (n - length xs) = omega (arith, length-remove xs j lt) in
    let lt1 : length (take j xs) ≡ j = length-take-le j xs (omega arith) in
    let ld1 : length (drop (suc j) xs) ≡ length xs - suc j = length-drop (suc j) xs in
    let lp : length (A ++ take j xs) ≡ at = length-append A (take j xs) ∙ omega arith in
    let from : A ++ ((xs ++ Z) ++ B) ≡ (A ++ take j xs) ++ (get_or xs j 0 ∷ (drop (suc j) xs ++ (Z ++ B))) =
    ap (λ y. A ++ ((y ++ Z) ++ B)) (split_at xs j 0 lt) ∙ again (take j xs) (drop (suc j) xs) Z (get_or xs j 0) in
    let last : (A ++ take j xs) ++ (drop (suc j) xs ++ (0 ∷ (Z ++ B))) ≡ A ++ ((remove xs j ++ (0 ∷ Z)) ++ B) = simp append_assoc in
    ap (λ w. closed w at end) from
    ∙ (closed_at (A ++ take j xs) (drop (suc j) xs) (Z ++ B) (get_or xs j 0) at end lp (omega arith)
    ∙ (last ∙ ap (λ k. A ++ ((remove xs j ++ replicate k 0) ++ B)) (sym e1)))
  where
    again : (p q z : List ℕ) (x : ℕ) → A ++ (((p ++ (x ∷ q)) ++ z) ++ B) ≡ (A ++ p) ++ (x ∷ (q ++ (z ++ B)))
    again p q z x = simp append_assoc

pub set_padded : (A B xs : List ℕ) (n j x at : ℕ) → j < length xs → length A + j ≡ at → set (A ++ (padded n xs ++ B)) at x ≡ A ++ (padded n (set xs j x) ++ B)
unfolding padded
set_padded A B xs n j x at lt ea =
    let z : at - length A ≡ j = omega arith in
    let l1 : j < length (xs ++ replicate (n - length xs) 0) = rw (length-append xs (replicate (n - length xs) 0)) (omega arith) in
    set-append_right A ((xs ++ replicate (n - length xs) 0) ++ B) (length A) at x refl (omega arith)
    ∙ (ap (λ k. A ++ set ((xs ++ replicate (n - length xs) 0) ++ B) k x) z
    ∙ (ap (λ y. A ++ y) (set-append_left (xs ++ replicate (n - length xs) 0) B j x l1)
    ∙ (ap (λ y. A ++ (y ++ B)) (set-append_left xs (replicate (n - length xs) 0) j x lt)
    ∙ ap (λ k. A ++ ((set xs j x ++ replicate (n - k) 0) ++ B)) (sym (length-set xs j x)))))
