-- No sign is printed that is not needed. Assumes nothing.
use Rattle.std.proofs.Common.{◌≡◌, ℕ, zero, suc, ◌+◌, ◌%◌, ◌<◌, true, false, eqb, List, [], ◌∷◌, ◌++◌, sym, refl, ap, ◌∙◌, subst, arith}
use mathlib.Core.List.{head-eq_of_cons-eq, tail-eq_of_cons-eq}
use Rattle.std.proofs.lemmas.Bool.{eq-eqb, and_parts, both_ways, not-true}
use Rattle.score.specs.Music.{Event, note, silence, lasts, tone, Heard, heard, all_fine}
use Rattle.score.specs.Print.{Symbol, bar, head, rest, key, Chunk, value, line, chunks, has_line, has_value, heads, rests, now, print, nothing, altered, reads}
use Rattle.score.specs.Promise.{SignsNeeded, has_sign, without_sign}
use Rattle.score.proofs.Picks.{pick_both}
use Rattle.laws.specs.Laying.{span}
use Rattle.laws.proofs.Laid.{span_chunks, Begun, chunks_begin, next_below, next_three}
use Rattle.laws.specs.Owed.{holding, sign_of}
use Rattle.laws.proofs.Events.{fine_lasts}
use Rattle.laws.proofs.Reading.{sound, read_note, read_rest, read_begun}

-- A sign in a row of which the front has none stands behind that front: taking it away leaves the front as it is.
abbrev Behind : List Symbol → List Symbol → ℕ → Type 0
Behind fs xs i = (j : ℕ) × (has_sign xs j ≡ true) × (without_sign (fs ++ xs) i ≡ fs ++ without_sign xs j)

behind_one : (x : Symbol) (fs xs : List Symbol) (i : ℕ) → (without_sign (x ∷ (fs ++ xs)) (suc i) ≡ x ∷ without_sign (fs ++ xs) i) → Behind fs xs i → Behind (x ∷ fs) xs (suc i)
behind_one x fs xs i w b = (b.0, b.1, w ∙ ap (λ (r : List Symbol). x ∷ r) b.2)

behind_heads : (p : ℕ) (cs : List Chunk) (xs : List Symbol) (i : ℕ) → has_sign (heads p 0 cs ++ xs) i ≡ true → Behind (heads p 0 cs) xs i
unfolding heads has_sign without_sign
behind_heads p [] xs i e = (i, e, refl)
behind_heads p (line ∷ cs) xs zero e = absurd (both_ways false refl e)
behind_heads p (line ∷ cs) xs (suc i) e = behind_one bar (heads p 0 cs) xs i refl (behind_heads p cs xs i e)
behind_heads p (value v ∷ cs) xs zero e = absurd (both_ways false refl e)
behind_heads p (value v ∷ cs) xs (suc i) e = behind_one (head p 0 v (has_value cs)) (heads p 0 cs) xs i refl (behind_heads p cs xs i e)

behind_rests : (cs : List Chunk) (xs : List Symbol) (i : ℕ) → has_sign (rests cs ++ xs) i ≡ true → Behind (rests cs) xs i
unfolding rests has_sign without_sign
behind_rests [] xs i e = (i, e, refl)
behind_rests (line ∷ cs) xs zero e = absurd (both_ways false refl e)
behind_rests (line ∷ cs) xs (suc i) e = behind_one bar (rests cs) xs i refl (behind_rests cs xs i e)
behind_rests (value v ∷ cs) xs zero e = absurd (both_ways false refl e)
behind_rests (value v ∷ cs) xs (suc i) e = behind_one (rest v) (rests cs) xs i refl (behind_rests cs xs i e)

-- If a sign is taken away of what is printed of a note and of what follows, and the note is heard as before, it was not the note's own: its own tells
-- a tone that would not be heard without it. So it is one of what follows, which is heard as before, too.
abbrev LaterSign : ℕ → List Symbol → ℕ → (ℕ → ℕ) → List Heard → Type 0
LaterSign k xs t st hs = (j : ℕ) × (has_sign xs j ≡ true) × (reads k (without_sign xs j) t st nothing ≡ hs)

sign_behind : (k p a d v : ℕ) (r : List Chunk) (xs : List Symbol) (t : ℕ) (st : ℕ → ℕ) (hs : List Heard) (i : ℕ) → v + span r ≡ d →
    has_sign (heads p (sign_of st p a) (value v ∷ r) ++ xs) i ≡ true →
    reads k (without_sign (heads p (sign_of st p a) (value v ∷ r) ++ xs) i) t st nothing ≡ sound t d (tone p a) ∷ hs →
    LaterSign k xs (t + d) (holding k r (now st p a)) hs
unfolding heads has_sign without_sign span has_line altered
sign_behind k p a d v r xs t st hs zero f e w = absurd (both_ways (eqb (st p) a) (no_sign (not-true _ e)) (eq-eqb (st p) a same))
  where
    first : sound t (v + span r) (tone p (st p)) ≡ sound t d (tone p a)
    first = head-eq_of_cons-eq (sym (read_note k p 0 v r xs t st) ∙ w)

    same : st p ≡ a
    same = let h : tone p (st p) ≡ tone p a = ap (λ (x : Heard). x.high) first in omega arith

    no_sign : eqb (sign_of st p a) 0 ≡ false → eqb (st p) a ≡ false
    no_sign = pick_both (λ (x : ℕ). eqb x 0 ≡ false → eqb (st p) a ≡ false) (eqb (st p) a) 0 (suc a) (λ _ y. absurd (both_ways true y refl)) (λ y _. y)
sign_behind k p a d v r xs t st hs (suc i) f e w = (
  b.0,
  b.1,
  tail-eq_of_cons-eq (sym (read_begun k p a d (value v ∷ r) (without_sign xs b.0) t st (v, r, refl) f)
      ∙ ap (λ (x : List Symbol). reads k (head p (sign_of st p a) v (has_value r) ∷ x) t st nothing) (sym b.2) ∙ w),
)
  where
    b : Behind (heads p 0 r) xs i
    b = behind_heads p r xs i e

sign_behind_begun : (k p a d : ℕ) (cs : List Chunk) (xs : List Symbol) (t : ℕ) (st : ℕ → ℕ) (hs : List Heard) (i : ℕ) → Begun cs → span cs ≡ d →
    has_sign (heads p (sign_of st p a) cs ++ xs) i ≡ true →
    reads k (without_sign (heads p (sign_of st p a) cs ++ xs) i) t st nothing ≡ sound t d (tone p a) ∷ hs →
    LaterSign k xs (t + d) (holding k cs (now st p a)) hs
unfolding span has_line
sign_behind_begun k p a d cs xs t st hs i b =
    subst (λ (c : List Chunk). span c ≡ d → has_sign (heads p (sign_of st p a) c ++ xs) i ≡ true →
    reads k (without_sign (heads p (sign_of st p a) c ++ xs) i) t st nothing ≡ sound t d (tone p a) ∷ hs → LaterSign k xs (t + d) (holding k c (now st p a)) hs)
    (sym b.2) (sign_behind k p a d b.0 b.1 xs t st hs i)

-- so no event has the sign that could be taken away
signs_all : (k b o : ℕ) (st : ℕ → ℕ) (t : ℕ) (es : List Event) (i : ℕ) → o < b → b % 3 ≡ 0 → o % 3 ≡ 0 → all_fine es ≡ true →
    has_sign (print k b o st es) i ≡ true → reads k (without_sign (print k b o st es) i) t st nothing ≡ heard es t → ⊥
unfolding print heard all_fine lasts has_sign
signs_all k b o st t [] i h b3 o3 f e w = both_ways false refl e
signs_all k b o st t (note p a d ∷ es) i h b3 o3 f e w =
    signs_all k b ((o + d) % b) (holding k (chunks (suc d) b o d) (now st p a)) (t + d) es l.0 (next_below b (o + d) (omega arith)) b3 (next_three b (o + d) b3 (omega (arith, g.1))) (and_parts _ _ f).1 l.1 l.2
  where
    g : (0 < d) × (d % 3 ≡ 0)
    g = fine_lasts (note p a d) (and_parts _ _ f).0

    l : LaterSign k (print k b ((o + d) % b) (holding k (chunks (suc d) b o d) (now st p a)) es) (t + d) (holding k (chunks (suc d) b o d) (now st p a)) (heard es (t + d))
    l = sign_behind_begun k p a d (chunks (suc d) b o d) _ t st (heard es (t + d)) i
        (chunks_begin d b o d g.0 h b3 o3 g.1) (span_chunks (suc d) b o d (omega arith) h b3 o3 g.1) e w
signs_all k b o st t (silence d ∷ es) i h b3 o3 f e w =
    signs_all k b ((o + d) % b) (holding k (chunks (suc d) b o d) st) (t + d) es l.0 (next_below b (o + d) (omega arith)) b3 (next_three b (o + d) b3 (omega (arith, g.1))) (and_parts _ _ f).1 l.1
    (ap (λ (n : ℕ). reads k (without_sign (print k b ((o + d) % b) (holding k (chunks (suc d) b o d) st) es) l.0) (t + n) (holding k (chunks (suc d) b o d) st) nothing) (sym (span_chunks (suc d) b o d (omega arith) h b3 o3 g.1))
    ∙ sym (read_rest k (chunks (suc d) b o d) (without_sign (print k b ((o + d) % b) (holding k (chunks (suc d) b o d) st) es) l.0) t st)
    ∙ ap (λ (x : List Symbol). reads k x t st nothing) (sym l.2) ∙ w)
  where
    g : (0 < d) × (d % 3 ≡ 0)
    g = fine_lasts (silence d) (and_parts _ _ f).0

    l : Behind (rests (chunks (suc d) b o d)) (print k b ((o + d) % b) (holding k (chunks (suc d) b o d) st) es) i
    l = behind_rests (chunks (suc d) b o d) _ i e

pub signs_needed : SignsNeeded
signs_needed k b i es h b3 f e w = signs_all k b 0 (key k) 0 es i h b3 refl f e w
