-- What was read, and what was refused: lemmas on results. Assumes nothing.
use Rattle.std.proofs.Common.{◌≡◌, ℕ, Ok, Err, Result, sym, refl, arith}
use Rattle.score.specs.Calls.{Answer}
use Rattle.wire.specs.ReadingCalls.{then}

-- a refusal is nothing read
pub never : {A : Type 0} (e : Answer) (x : A) {P : Type 0} → ◌≡◌ {A = Result A Answer} (Err e) (Ok x) → P
never e x p = let z : ◌≡◌ {A = ℕ} 0 1 = cc in absurd (omega arith)

-- what comes first was read, and what follows too
pub then_read : {A B : Type 0} (r : Result A Answer) (f : A → Result B Answer) (b : B) → then r f ≡ Ok b → (a : A) × (r ≡ Ok a) × (f a ≡ Ok b)
then_read (Ok a) f b p = (a, refl, p)
then_read (Err e) f b p = never e b p

-- what was refused is not what was made of it
pub then_refused : {A B : Type 0} (r : Result A Answer) (f : A → B) (e : Answer) → then r (λ x. Ok (f x)) ≡ Err e → r ≡ Err e
then_refused (Ok a) f e p = never e (f a) (sym p)
then_refused (Err d) f e p = cc
