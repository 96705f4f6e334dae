-- What holds in one bar after the other: what an event alters holds from then on, and in another bar the key does. Assumes nothing.
use Rattle.std.proofs.Common.{◌≡◌, ℕ, suc, ◌+◌, ◌-◌, ◌/◌, ◌<◌, ◌≤◌, ◌⊎◌, Bool, true, false, eqb, leb, List, [], ◌∷◌, ◌++◌, length, get_or, set, replicate, sym, refl, ap, ◌∙◌, ap₂, inl, inr, arith}
use native.Mathlib.Nat.{div-eq_of_lt, div-eq-sub-div}
use Rattle.std.proofs.lemmas.List.FromFn.{length-map-range_with_len, get_or-map-range_with_len, fill_by_all}
use Rattle.std.proofs.lemmas.List.{get_or-set_same, get_or-set_other, get_or_append_left, get_or-replicate, get_or_past, length-set, length-replicate}
use Rattle.std.proofs.lemmas.Bool.{leb-true, leb-false, eqb-true, eqb-false, eq-eqb, ne_eqb, cases_lt}
use Rattle.std.proofs.Math.Nat.{div-le_self}
use Rattle.score.specs.Music.{pick, places}
use Rattle.score.specs.Print.{key}
use Rattle.score.proofs.Picks.{pick_true, pick_false, pick_both}
use Rattle.keys.specs.Held.{key_row, held_in, sign_needed, then_holding}
use Rattle.keys.proofs.Holding.{length_key_row, held_key}
use Rattle.voices.specs.declared.holding.Holding.{Holding}
use Rattle.voices.specs.Holding.{no_bar, held_at, holds_in, UpTo}

module _ (h : Holding) (bar : ℕ) where
  pub length_holds : length (holds_in h bar) ≡ places
  unfolding holds_in
  length_holds = length-map-range_with_len (held_at h bar) 0 places

  pub holds_word : (q : ℕ) → q < places → get_or (holds_in h bar) q 0 ≡ held_at h bar q
  unfolding holds_in
  holds_word q lt = get_or-map-range_with_len (held_at h bar) 0 places q q 0 lt (omega arith)

  is_holds : (xs : List ℕ) → length xs ≡ places → ((q : ℕ) → q < places → get_or xs q 0 ≡ held_at h bar q) → holds_in h bar ≡ xs
  unfolding holds_in
  is_holds xs long at = sym (fill_by_all (held_at h bar) xs places 0 long at)

same : (q p : ℕ) → (q ≡ p) ⊎ (q ≡ p → ⊥)
same q p = go (eqb q p) refl
  where
    go : (b : Bool) → eqb q p ≡ b → (q ≡ p) ⊎ (q ≡ p → ⊥)
    go true e = inl (eqb-true q p e)
    go false e = inr (eqb-false q p e)

-- an event of the bar
module _ (h : Holding) (bar p a : ℕ) (le : p ≤ places) where
  abbrev then : Holding
  then = record { key = h.key; altered = set h.altered p a; bars = set h.bars p bar }

  pub sign_is : pick (eqb p places) 0 (pick (eqb (held_at h bar p) a) 0 (a + 1)) ≡ sign_needed (holds_in h bar) p a
  sign_is =
      let s : a + 1 ≡ suc a = omega arith in
      pick_both (λ (x : ℕ). x ≡ sign_needed (holds_in h bar) p a) (eqb p places) 0 (pick (eqb (held_at h bar p) a) 0 (a + 1)) (λ e. sym (pick_true _ _ _ e))
      (λ e. let n = eqb-false p places e in sym (pick_false _ _ _ e ∙ ap₂ (λ (x y : ℕ). pick (eqb x a) 0 y) (holds_word h bar p (omega arith)) (sym s)))

  other : (q : ℕ) → (q ≡ p → ⊥) → held_at then bar q ≡ held_at h bar q
  other q ne =
      ap₂ (λ x y. pick (eqb x bar) y (get_or h.key q 0)) (get_or-set_other h.bars p q bar 0 ne) (get_or-set_other h.altered p q a 0 ne)

  here : p < length h.altered → p < length h.bars → held_at then bar p ≡ a
  here la lb = ap₂ (λ x y. pick (eqb x bar) y (get_or h.key p 0)) (get_or-set_same h.bars p bar 0 lb) (get_or-set_same h.altered p a 0 la) ∙ pick_true _ _ _ (eq-eqb bar bar refl)

  pub holds_is : p < length h.altered → p < length h.bars → holds_in then bar ≡ then_holding (holds_in h bar) p a
  holds_is la lb =
      let hs : List ℕ = holds_in h bar in
      pick_both (λ (xs : List ℕ). holds_in then bar ≡ xs) (eqb p places) hs (set hs p a)
      (λ e. let z = eqb-true p places e in is_holds then bar hs (length_holds h bar) (λ q lt. holds_word h bar q lt ∙ sym (other q (λ w. omega (arith, w, z, lt)))))
      (λ e.
      let n = eqb-false p places e in
      is_holds then bar (set hs p a) (length-set hs p a ∙ length_holds h bar) (λ q lt. elim (same q p) [
        | inl w ↦ ap (λ i. get_or (set hs p a) i 0) w ∙ (get_or-set_same hs p a 0 (omega (arith, length_holds h bar)) ∙ (sym (here la lb) ∙ ap (held_at then bar) (sym w)))
        | inr w ↦ get_or-set_other hs p q a 0 w ∙ (holds_word h bar q lt ∙ sym (other q w))
      ]))

  pub up_to : p < length h.bars → (k : ℕ) → UpTo k h bar → UpTo k then bar
  up_to lb k u = record {
    by_key = u.by_key;
    not_later = λ q later lt small e. elim (same q p) [
      | inl w ↦ let x = ap (λ i. get_or (set h.bars p bar) i 0) w ∙ get_or-set_same h.bars p bar 0 lb in omega (arith, x, e, lt)
      | inr w ↦ u.not_later q later lt small (sym (get_or-set_other h.bars p q bar 0 w) ∙ e)
    ];
  }

-- in a later bar the key holds
pub later_bar : (k : ℕ) (h : Holding) (bar later : ℕ) → UpTo k h bar → bar < later → later < no_bar → holds_in h later ≡ key_row k
unfolding key_row
later_bar k h bar later u lt small =
    fill_by_all (key k) (holds_in h later) places 0 (length_holds h later) (λ q l.
    holds_word h later q l ∙ (pick_false _ _ _ (ne_eqb (get_or h.bars q 0) later (u.not_later q later lt small)) ∙ u.by_key q l))

pub up_to_later : (k : ℕ) (h : Holding) (bar later : ℕ) → UpTo k h bar → bar ≤ later → UpTo k h later
up_to_later k h bar later u le = record { by_key = u.by_key; not_later = λ q at lt small. u.not_later q at (omega (arith, lt, le)) small }

-- behind an event that ends so many ticks behind the beginning of a bar: over a line the key holds
pub next_holds : (k : ℕ) (h : Holding) (bar t b : ℕ) → UpTo k h bar → 0 < b → bar + t < no_bar → pick (leb b t) (key k) (held_in k (holds_in h bar)) ≡ held_in k (holds_in h (bar + t / b))
next_holds k h bar t b u pos small =
    pick_both (λ g. g ≡ held_in k (holds_in h (bar + t / b))) (leb b t) (key k) (held_in k (holds_in h bar))
    (λ e. let le = leb-true b t e in let one : t / b ≡ (t - b) / b + 1 = div-eq-sub-div pos le in let d = div-le_self t b in sym (held_key k (holds_in h (bar + t / b)) (later_bar k h bar (bar + t / b) u (omega (arith, one)) (omega (arith, d, small)))))
    (λ e. let lt = leb-false b t e in let z : t / b ≡ 0 = div-eq_of_lt lt in let s : bar ≡ bar + t / b = omega (arith, z) in ap (λ i. held_in k (holds_in h i)) s)

-- where the key holds at first
module _ (k bar other : ℕ) (row : List ℕ) (e : row ≡ key_row k) (ne : other ≡ bar → ⊥) (behind : (later : ℕ) → bar < later → later < no_bar → other ≡ later → ⊥) where
  abbrev first : Holding
  first = record { key = row ++ (0 ∷ []); altered = replicate 71 0; bars = replicate 71 other }

  key_word : (q : ℕ) → q < places → get_or (row ++ (0 ∷ [])) q 0 ≡ key k q
  unfolding key_row
  key_word q lt =
      let l = ap length e ∙ length_key_row k in
      get_or_append_left row (0 ∷ []) 0 q (omega arith) ∙ (ap (λ xs. get_or xs q 0) e ∙ get_or-map-range_with_len (key k) 0 places q q 0 lt (omega arith))

  pub first_up_to : UpTo k first bar
  first_up_to = record {
    by_key = key_word;
    not_later = λ q later lt small is. elim (cases_lt q 71) [
      | inl l ↦ behind later lt small (sym (get_or-replicate 71 q other 0 l) ∙ is)
      | inr l ↦ let x = get_or_past (replicate 71 other) q 0 (let r = length-replicate 71 other in omega (arith, r, l)) in omega (arith, x, is, lt)
    ];
  }

  pub first_holds : holds_in first bar ≡ key_row k
  unfolding key_row
  first_holds =
      fill_by_all (key k) (holds_in first bar) places 0 (length_holds first bar) (λ q l.
      holds_word first bar q l ∙ (pick_false _ _ _ (ne_eqb (get_or (replicate 71 other) q 0) bar (λ z. ne (sym (get_or-replicate 71 q other 0 (omega (arith, l))) ∙ z))) ∙ key_word q l))
