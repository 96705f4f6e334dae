-- What holds in a bar, as words say it: at first the key, and then what is written. Assumes nothing.
use Rattle.std.proofs.Common.{◌≡◌, ℕ, suc, ◌<◌, ◌≤◌, eqb, ltb, List, length, get_or, set, sym, refl, ap, ◌∙◌, arith}
use mathlib.Core.Path.{fun_ext}
use Rattle.std.proofs.lemmas.List.FromFn.{length-map-range_with_len, get_or-map-range_with_len}
use Rattle.std.proofs.lemmas.List.{get_or-set_same, get_or-set_other}
use Rattle.std.proofs.lemmas.Bool.{eqb-true, eqb-false, ltb-true, lt-ltb}
use Rattle.score.specs.Music.{pick, places}
use Rattle.score.specs.Print.{key, now}
use Rattle.score.proofs.Picks.{pick_true, pick_false, pick_both}
use Rattle.keys.specs.Held.{key_row, held_in, sign_needed, then_holding}

pub held_at : (k : ℕ) (hs : List ℕ) (p : ℕ) → p < places → held_in k hs p ≡ get_or hs p 0
unfolding held_in
held_at k hs p h = pick_true _ _ _ (lt-ltb p places h)

-- where a bar begins
pub held_key : (k : ℕ) (hs : List ℕ) → hs ≡ key_row k → held_in k hs ≡ key k
unfolding held_in key_row
held_key k hs e =
    fun_ext (λ q. pick_both (λ (x : ℕ). x ≡ key k q) (ltb q places) (get_or hs q 0) (key k q)
    (λ t. ap (λ (xs : List ℕ). get_or xs q 0) e ∙ get_or-map-range_with_len (key k) 0 places q q 0 (ltb-true q places t) (omega arith)) (λ _. refl))

-- where an alteration begins to hold at a place
pub held_set : (k : ℕ) (hs : List ℕ) (p a : ℕ) → p < places → p < length hs → held_in k (set hs p a) ≡ now (held_in k hs) p a
unfolding held_in
held_set k hs p a h l =
    fun_ext (λ q. pick_both (λ (x : ℕ). pick (ltb q places) (get_or (set hs p a) q 0) (key k q) ≡ x) (eqb q p) a (held_in k hs q)
    (λ e. pick_true _ _ _ (lt-ltb q places (omega (arith, eqb-true q p e))) ∙ ap (λ (x : ℕ). get_or (set hs p a) x 0) (eqb-true q p e) ∙ get_or-set_same hs p a 0 l)
    (λ e. ap (λ (x : ℕ). pick (ltb q places) x (key k q)) (get_or-set_other hs p q a 0 (eqb-false q p e))))

pub length_key_row : (k : ℕ) → length (key_row k) ≡ places
unfolding key_row
length_key_row k = length-map-range_with_len (key k) 0 places

-- an event that begins, by the function that the words mean
pub needed_is : (k : ℕ) (hs : List ℕ) (p a : ℕ) → p ≤ places → sign_needed hs p a ≡ pick (eqb p places) 0 (pick (eqb (held_in k hs p) a) 0 (suc a))
needed_is k hs p a h =
    pick_both (λ (x : ℕ). sign_needed hs p a ≡ x) (eqb p places) 0 (pick (eqb (held_in k hs p) a) 0 (suc a)) (λ e. pick_true _ _ _ e)
    (λ e. let n = eqb-false p places e in pick_false _ _ _ e ∙ ap (λ (x : ℕ). pick (eqb x a) 0 (suc a)) (sym (held_at k hs p (omega arith))))

pub holding_is : (k : ℕ) (hs : List ℕ) (p a : ℕ) → p ≤ places → length hs ≡ places → held_in k (then_holding hs p a) ≡ pick (eqb p places) (held_in k hs) (now (held_in k hs) p a)
holding_is k hs p a h l =
    pick_both (λ (g : ℕ → ℕ). held_in k (then_holding hs p a) ≡ g) (eqb p places) (held_in k hs) (now (held_in k hs) p a) (λ e. ap (held_in k) (pick_true _ _ _ e))
    (λ e. let n = eqb-false p places e in ap (held_in k) (pick_false _ _ _ e) ∙ held_set k hs p a (omega arith) (omega arith))
