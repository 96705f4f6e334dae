-- A key by the order of its signs, as the code finds it. Assumes nothing.
use Rattle.std.proofs.Common.{◌≡◌, ℕ, ◌+◌, ◌-◌, ◌*◌, ◌%◌, ◌<◌, ◌≤◌, Bool, true, eqb, ltb, leb, ◌⊎◌, List, [], ◌∷◌, take, sym, refl, ap, ◌∙◌, inl, inr, arith}
use native.Mathlib.Nat.{mod-mod}
use Rattle.std.proofs.lemmas.Bool.{le-leb, lt-ltb, eqb-true, cases_lt}
use Rattle.std.proofs.lemmas.List.{take_all}
use Rattle.score.specs.Music.{pick}
use Rattle.score.specs.Print.{among, key}
use Rattle.score.proofs.Picks.{pick_true}
use Rattle.score.proofs.Tables.{each_below, each_at}

-- the place of a step in the order of sharps, f c g d a e b, and the alteration by it
abbrev pub order_of : ℕ → ℕ
order_of p = (2 * (p % 7) + 1) % 7

abbrev pub by_order : ℕ → ℕ → ℕ
by_order k i = pick (leb 7 k) (pick (ltb (i + 7) k) 3 2) (pick (leb k i) 1 2)

-- at fifteen keys and seven steps these agree, as can be computed
key_test : ℕ → ℕ → Bool
key_test k p = eqb (key k p) (by_order k (order_of p))

key_table : each_below (λ k. each_below (key_test k) 7) 15 ≡ true
unfolding key_test each_below among
key_table = refl

-- all octaves are alike
by_step : ℕ → ℕ → ℕ
by_step k s =
    pick (leb 7 k)
    (pick (among s (take (k - 7) (3 ∷ (0 ∷ (4 ∷ (1 ∷ (5 ∷ (2 ∷ (6 ∷ []))))))))) 3 2)
    (pick (among s (take (7 - k) (6 ∷ (2 ∷ (5 ∷ (1 ∷ (4 ∷ (0 ∷ (3 ∷ []))))))))) 1 2)

key_mod : (k p : ℕ) → key k p ≡ key k (p % 7)
unfolding by_step
key_mod k p = ap (by_step k) (sym (mod-mod p 7))

pub key_octave : (k o s : ℕ) → s < 7 → key k s ≡ key k (7 * o + s)
unfolding by_step
key_octave k o s h = let e : s % 7 ≡ (7 * o + s) % 7 = omega arith in ap (by_step k) e

in_range : (k p : ℕ) → k ≤ 14 → key k p ≡ by_order k (order_of p)
unfolding key_test
in_range k p h =
    let t : key_test k (p % 7) ≡ true = each_at (key_test k) 7 (p % 7) (each_at (λ k. each_below (key_test k) 7) 15 k key_table (omega arith)) (omega arith) in
    key_mod k p ∙ eqb-true (key k (p % 7)) (by_order k (order_of (p % 7))) t ∙ ap (λ (s : ℕ). by_order k ((2 * s + 1) % 7)) (mod-mod p 7)

-- past fourteen there are no more sharps
past_range : (k p : ℕ) → 14 < k → key k p ≡ 3
past_range k p h =
    pick_true _ _ _ (le-leb 7 k (omega arith))
    ∙ ap (λ (ss : List ℕ). pick (among (p % 7) ss) 3 2) (take_all (k - 7) (3 ∷ (0 ∷ (4 ∷ (1 ∷ (5 ∷ (2 ∷ (6 ∷ []))))))) (omega arith))
    ∙ in_range 14 p (omega arith) ∙ pick_true _ _ _ (lt-ltb (order_of p + 7) 14 (omega arith))

pub key_is : (k p : ℕ) → key k p ≡ by_order k (order_of p)
key_is k p = go (cases_lt 14 k)
  where
    go : (14 < k) ⊎ (k ≤ 14) → key k p ≡ by_order k (order_of p)
    go (inl h) = past_range k p h ∙ sym (pick_true _ _ _ (le-leb 7 k (omega arith)) ∙ pick_true _ _ _ (lt-ltb (order_of p + 7) k (omega arith)))
    go (inr h) = in_range k p h
