-- Fields that are read one by one are those that the definition of reading finds. Assumes nothing.
use Rattle.std.proofs.Common.{◌≡◌, ℕ, suc, ◌+◌, ◌-◌, ◌<◌, ◌≤◌, List, [], ◌∷◌, ◌++◌, Ok, Err, Result, sym, refl, ap, ◌∙◌, append_assoc, arith}
use Rattle.std.proofs.lemmas.List.{append-nil}
use Rattle.score.specs.Calls.{Answer}
use Rattle.wire.specs.ReadingCalls.{then, field_at, end_at, fields_at}
use Rattle.wire.proofs.Results.{never}

-- fields that were read, ahead of those that are read of the rest
abbrev pub ahead : List ℕ → Result (List ℕ) Answer → Result (List ℕ) Answer
ahead vs r = then r (λ xs. Ok (vs ++ xs))

ahead_one : (vs : List ℕ) (v : ℕ) (r : Result (List ℕ) Answer) → ahead (vs ++ (v ∷ [])) r ≡ ahead vs (then r (λ xs. Ok (v ∷ xs)))
ahead_one vs v (Ok xs) = ap Ok (append_assoc vs (v ∷ []) xs)
ahead_one vs v (Err e) = refl

-- one more is read, or none, and at last all are
pub field_more :
    (n m i : ℕ) (bs rest : List ℕ) (v : ℕ) (vs ws : List ℕ) (whole : Result (List ℕ) Answer) → i < m → Ok (v, rest) ≡ field_at n bs
    → ws ≡ vs ++ (v ∷ []) → ahead vs (fields_at n (m - i) bs) ≡ whole → ahead ws (fields_at (n + 4) (m - (i + 1)) rest) ≡ whole
unfolding fields_at
field_more n m i bs rest v vs ws whole h e s all =
    let z : m - i ≡ suc (m - (i + 1)) = omega arith in
    ap (λ ws. ahead ws (fields_at (n + 4) (m - (i + 1)) rest)) s
    ∙ ahead_one vs v (fields_at (n + 4) (m - (i + 1)) rest)
    ∙ ap (λ r. ahead vs (then r (λ x. then (fields_at (n + 4) (m - (i + 1)) x.1) (λ xs. Ok (x.0 ∷ xs))))) e
    ∙ ap (λ k. ahead vs (fields_at n k bs)) (sym z)
    ∙ all

pub field_none :
    (n m i : ℕ) (bs vs : List ℕ) (e : Answer) (whole : Result (List ℕ) Answer) → i < m → Err e ≡ field_at n bs → ahead vs (fields_at n (m - i) bs) ≡ whole
    → Err e ≡ whole
unfolding fields_at
field_none n m i bs vs e whole h p all =
    let z : m - i ≡ suc (m - (i + 1)) = omega arith in
    ap (λ r. ahead vs (then r (λ x. then (fields_at (n + 4) (m - (i + 1)) x.1) (λ xs. Ok (x.0 ∷ xs))))) p
    ∙ ap (λ k. ahead vs (fields_at n k bs)) (sym z)
    ∙ all

pub field_all :
    (n m i : ℕ) (bs vs : List ℕ) (whole : Result (List ℕ) Answer) → m ≤ i → ◌≡◌ {A = Result (Unit {0}) Answer} (Ok tt) (end_at n bs tt) → ahead vs (fields_at n (m - i) bs) ≡ whole → Ok vs ≡ whole
unfolding fields_at
field_all n m i [] vs whole h p all =
    let z : m - i ≡ 0 = omega arith in ap Ok (sym (append-nil vs)) ∙ ap (λ k. ahead vs (fields_at n k [])) (sym z) ∙ all
field_all n m i (b ∷ bs) vs whole h p all = never _ _ (sym p)

pub field_over :
    (n m i : ℕ) (bs vs : List ℕ) (e : Answer) (whole : Result (List ℕ) Answer) → m ≤ i → ◌≡◌ {A = Result (Unit {0}) Answer} (Err e) (end_at n bs tt) → ahead vs (fields_at n (m - i) bs) ≡ whole → Err e ≡ whole
unfolding fields_at
field_over n m i [] vs e whole h p all = never _ _ p
field_over n m i (b ∷ bs) vs e whole h p all =
    let z : m - i ≡ 0 = omega arith in let q : Err e ≡ ahead vs (end_at n (b ∷ bs) []) = cc in q ∙ ap (λ k. ahead vs (fields_at n k (b ∷ bs))) (sym z) ∙ all
