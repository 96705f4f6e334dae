-- One turn of the mixing: the lowest bit of a slot says which voice's note comes next. Assumes nothing.
use Rattle.std.proofs.Common.{◌≡◌, ℕ, suc, ◌+◌, ◌^◌, ◌<◌, ◌≤◌, eqb, List, [], ◌∷◌, sym, refl, ap, ◌∙◌, subst, inl, inr, arith}
use lib.Bits.{bit_xor}
use Rattle.std.proofs.lemmas.Bool.{cases_eq, eq-eqb, ne_eqb}
use Rattle.score.specs.Music.{pick, Heard}
use Rattle.score.proofs.Picks.{pick_true, pick_false, pick_both}
use Rattle.std.specs.Int.{bit_at}
use Rattle.sounds.specs.Spans.{Row, starts, mixed, grain, begun, Begin}
use Rattle.std.proofs.lemmas.Nat.Bits.{bit_at-zero}
use Rattle.sounds.proofs.Bits.{flip_same, flip_other, Lowest}
use Rattle.sounds.proofs.Mixed.{From, mixed_next, mixed_none}

unfoldable Least : ℕ → List ℕ → Type 0
Least t [] = Unit {0}
Least t (x ∷ xs) = t ≤ x

least_later : (t r : ℕ) (xs : List ℕ) → t ≤ r → Least r xs → Least t xs
unfolding Least
least_later t r [] l h = tt
least_later t r (x ∷ xs) l h = omega arith

begun_least : (u t : ℕ) (ms : List ℕ) → Least t (begun u t ms)
unfolding begun Least
begun_least u t [] = tt
begun_least u t (m ∷ ms) = pick_both (Least t) (eqb (bit_at m u) 1) _ _ (λ _. omega arith) (λ _. least_later t (t + grain) _ (omega arith) (begun_least u (t + grain) ms))

from_starts : (t : ℕ) (xs : Row) (ts : List ℕ) → starts xs ≡ ts → Least t ts → From t xs
unfolding Least From
from_starts t [] ts e h = tt
from_starts t (x ∷ xs) ts e h = subst (Least t) (sym e) h

-- of a voice that has no bit in the slot
pub begun_later : (u t m : ℕ) (ms : List ℕ) → bit_at m u ≡ 0 → begun u t (m ∷ ms) ≡ begun u (t + grain) ms
unfolding begun
begun_later u t m ms z = pick_false (eqb (bit_at m u) 1) _ _ (ne_eqb _ _ (λ e. omega arith))

pub begun_here : (u t m : ℕ) (ms : List ℕ) → bit_at m u ≡ 1 → begun u t (m ∷ ms) ≡ t ∷ begun u (t + grain) ms
unfolding begun
begun_here u t m ms e = pick_true (eqb (bit_at m u) 1) _ _ (eq-eqb _ _ e)

begun_alike : (u t m w : ℕ) (ms : List ℕ) → bit_at m u ≡ bit_at w u → begun u t (m ∷ ms) ≡ begun u t (w ∷ ms)
unfolding begun
begun_alike u t m w ms e = ap (λ (n : ℕ). pick (eqb n 1) (t ∷ begun u (t + grain) ms) (begun u (t + grain) ms)) e

-- the first note of a row, and what comes after it
pub record First (xs : Row) (t : ℕ) (ts : List ℕ) : Type 0 where
  pub note : ℕ × Heard
  pub rest : Row
  pub is : xs ≡ note ∷ rest
  pub starts_at : note.1.start ≡ t
  pub after : starts rest ≡ ts

first_of : (xs : Row) (t : ℕ) (ts : List ℕ) → starts xs ≡ t ∷ ts → First xs t ts
first_of [] t ts e = cc
first_of (x ∷ xs) t ts e = record { note = x; rest = xs; is = refl; starts_at = cc; after = cc }

module _ (f : ℕ → Row) (t m v : ℕ) (ms : List ℕ) (b : Begin f t (m ∷ ms)) (low : Lowest m v) where
  pub turn_first : First (f v) t (begun v (t + grain) ms)
  turn_first = first_of (f v) t _ (b.told v ∙ begun_here v t m ms low.is_set)

  -- after it is taken from its row
  module _ (g : ℕ → Row) (gone : g v ≡ turn_first.rest) (same : (u : ℕ) → (u ≡ v → ⊥) → f u ≡ g u) where
    pub turn_mixed : (n : ℕ) → v < n → mixed f n 0 ≡ turn_first.note ∷ mixed g n 0
    turn_mixed n l =
        mixed_next f g v turn_first.note turn_first.rest turn_first.is gone same
        (λ u k. subst (λ (i : ℕ). From (suc i) (f u)) (sym turn_first.starts_at)
        (from_starts (suc t) (f u) _ (b.told u ∙ begun_later u t m ms (low.none_below u k)) (least_later (suc t) (t + grain) _ (omega arith) (begun_least u (t + grain) ms))))
        (λ u k. subst (λ (i : ℕ). From i (f u)) (sym turn_first.starts_at) (from_starts t (f u) _ (b.told u) (begun_least u t (m ∷ ms))))
        n 0 (omega arith) (omega arith)

    pub turn_begin : Begin g t (bit_xor m (2 ^ v) ∷ ms)
    turn_begin = record {
      told = λ u. elim (cases_eq u v) [
        | inl e ↦
            ap (λ (i : ℕ). starts (g i)) e ∙ ap starts gone ∙ turn_first.after
            ∙ sym (ap (λ (i : ℕ). begun i t (bit_xor m (2 ^ v) ∷ ms)) e ∙ begun_later v t (bit_xor m (2 ^ v)) ms (flip_same m v low.is_set))
        | inr ne ↦ ap starts (sym (same u ne)) ∙ b.told u ∙ begun_alike u t m (bit_xor m (2 ^ v)) ms (sym (flip_other m v u ne))
      ];
    }

-- a slot without bits
pub begin_later : (f : ℕ → Row) (t m : ℕ) (ms : List ℕ) → m ≡ 0 → Begin f t (m ∷ ms) → Begin f (t + grain) ms
begin_later f t m ms z b = record { told = λ u. b.told u ∙ begun_later u t m ms (ap (λ (n : ℕ). bit_at n u) z ∙ bit_at-zero u) }

-- and no more slots
no_notes : (xs : Row) → starts xs ≡ [] → xs ≡ []
no_notes [] e = refl
no_notes (x ∷ xs) e = cc

pub begin_none : (f : ℕ → Row) (t n : ℕ) → Begin f t [] → mixed f n 0 ≡ []
unfolding begun
begin_none f t n b = mixed_none f n 0 (λ u. no_notes (f u) (b.told u))
