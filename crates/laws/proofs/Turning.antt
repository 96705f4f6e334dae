-- Calls that are turned away and questions change nothing, and a cut undoes a put. Assumes nothing.
use Rattle.std.proofs.Common.{◌≡◌, ℕ, zero, suc, ◌<◌, ◌≤◌, Bool, true, false, eqb, ltb, leb, ◌⊎◌, List, [], ◌∷◌, ◌++◌, length, take, drop, set, sym, refl, ap, ◌∙◌, subst, inl, inr, arith, length-set, get_or-set_same, set-set}
use lib.Seq.{set-get_or}
use Rattle.std.proofs.lemmas.Bool.{and_from, leb-true, lt-ltb, ltb-true, eq-eqb, ne_eqb}
use Rattle.score.specs.Music.{pick, Event}
use Rattle.score.specs.Calls.{Call, put, cut, change, show, heard_in, how_long, Limits, Layout, Score, voice, fits, turned, turned_by, after, answers, changed, call_number, good_call, good_fields}
use Rattle.score.specs.Promise.{TurnedAway, Undone}
use Rattle.score.proofs.Picks.{pick_true, pick_false, pick_same}

-- the score after a call that is turned away, and after a question
pub after_turned : (l : Limits) (y : Layout) (s : Score) (c : Call) → 0 < turned l y s c → after l y s c ≡ s
after_turned l y s c h = pick_false (eqb (turned l y s c) 0) _ _ (ne_eqb _ _ (λ e. omega arith))

asked : (s : Score) (c : Call) → 3 ≤ call_number c → changed s c ≡ s
unfolding changed call_number
asked s (put v i e) h = absurd (omega arith)
asked s (cut v i) h = absurd (omega arith)
asked s (change v i e) h = absurd (omega arith)
asked s (show v b n) h = refl
asked s (heard_in a b) h = refl
asked s (how_long v) h = refl

pub after_asked : (l : Limits) (y : Layout) (s : Score) (c : Call) → 3 ≤ call_number c → after l y s c ≡ s
after_asked l y s c h = ap (λ (x : Score). pick (eqb (turned l y s c) 0) x s) (asked s c h) ∙ pick_same (eqb (turned l y s c) 0) s

pub turned_away : TurnedAway
turned_away l y s c cs h = ap (λ (x : Score). answers l y x cs) (go h)
  where
    go : (0 < turned l y s c) ⊎ (3 ≤ call_number c) → after l y s c ≡ s
    go (inl p) = after_turned l y s c p
    go (inr p) = after_asked l y s c p

-- a call that is not turned away has passed each of the three tests, and is done
pub not_turned : (l : Limits) (y : Layout) (s : Score) (c : Call) → turned l y s c ≡ 0 → (good_call l y c ≡ true) × (turned_by s c ≡ 0) × (fits l (changed s c) ≡ true)
not_turned l y s c = go (good_call l y c) (turned_by s c) (fits l (changed s c))
  where
    go : (g : Bool) (n : ℕ) (f : Bool) → pick g (pick (eqb n 0) (pick f 0 6) n) 2 ≡ 0 → (g ≡ true) × (n ≡ 0) × (f ≡ true)
    go false n f e = absurd (omega arith)
    go true zero true e = (refl, refl, refl)
    go true zero false e = absurd (omega arith)
    go true (suc n) f e = absurd (bad (sym (pick_false (eqb (suc n) 0) _ (suc n) (ne_eqb _ _ (λ z. omega arith))) ∙ e))
      where
        bad : suc n ≡ 0 → ⊥
        bad z = omega arith

pub turned_not : (l : Limits) (y : Layout) (s : Score) (c : Call) → good_call l y c ≡ true → turned_by s c ≡ 0 → fits l (changed s c) ≡ true → turned l y s c ≡ 0
turned_not l y s c g n f =
    pick_true (good_call l y c) _ _ g ∙ pick_true (eqb (turned_by s c) 0) _ _ (eq-eqb _ 0 n) ∙ pick_true (fits l (changed s c)) _ _ f

pub after_not : (l : Limits) (y : Layout) (s : Score) (c : Call) → turned l y s c ≡ 0 → after l y s c ≡ changed s c
after_not l y s c e = pick_true (eqb (turned l y s c) 0) _ _ (eq-eqb _ 0 e)

two_picks : (a b : Bool) → ◌≡◌ {A = ℕ} (pick a (pick b 0 5) 4) 0 → (a ≡ true) × (b ≡ true)
two_picks true true e = (refl, refl)
two_picks true false e = absurd (omega arith)
two_picks false b e = absurd (omega arith)

-- what is put in is cut out again
put_cut : (xs : List Event) (i : ℕ) (e : Event) → i ≤ length xs →
    take i (take i xs ++ (e ∷ drop i xs)) ++ drop (suc i) (take i xs ++ (e ∷ drop i xs)) ≡ xs
put_cut xs zero e h = refl
put_cut [] (suc i) e h = absurd (omega arith)
put_cut (x ∷ xs) (suc i) e h = ap (λ (r : List Event). x ∷ r) (put_cut xs i e (omega arith))

put_long : (xs : List Event) (i : ℕ) (e : Event) → i ≤ length xs → length (take i xs ++ (e ∷ drop i xs)) ≡ suc (length xs)
put_long xs zero e h = refl
put_long [] (suc i) e h = absurd (omega arith)
put_long (x ∷ xs) (suc i) e h = ap suc (put_long xs i e (omega arith))

module _ (s : Score) (v i : ℕ) (e : Event) (lv : v < length s) (li : i ≤ length (voice s v)) where
  put_voice : voice (changed s (put v i e)) v ≡ take i (voice s v) ++ (e ∷ drop i (voice s v))
  unfolding changed
  put_voice = get_or-set_same s v (take i (voice s v) ++ (e ∷ drop i (voice s v))) [] lv

  cut_put : changed (changed s (put v i e)) (cut v i) ≡ s
  unfolding changed
  cut_put =
      ap (λ (x : List Event). set (changed s (put v i e)) v (take i x ++ drop (suc i) x)) put_voice
      ∙ ap (λ (x : List Event). set (changed s (put v i e)) v x) (put_cut (voice s v) i e li)
      ∙ set-set s v _ (voice s v) ∙ set-get_or s v []

  cut_can : turned_by (changed s (put v i e)) (cut v i) ≡ 0
  unfolding turned_by changed
  cut_can =
      pick_true (ltb v (length (changed s (put v i e)))) _ _ (lt-ltb _ _ (subst (λ (x : ℕ). v < x) (sym (length-set s v _)) lv))
      ∙ pick_true (ltb i (length (voice (changed s (put v i e)) v))) 0 5
      (lt-ltb _ _ (subst (λ (x : ℕ). i < x) (sym (ap length put_voice ∙ put_long (voice s v) i e li)) (omega arith)))

-- so after both the score is as it was
pub put_undone : (l : Limits) (y : Layout) (s : Score) (v i : ℕ) (e : Event) → turned l y s (put v i e) ≡ 0 → l.calls_can 1 ≡ true → fits l s ≡ true →
    after l y (after l y s (put v i e)) (cut v i) ≡ s
unfolding turned_by call_number good_fields
put_undone l y s v i e t c h = ap (λ (x : Score). after l y x (cut v i)) (after_not l y s (put v i e) t) ∙ after_not l y (changed s (put v i e)) (cut v i) cuts ∙ back
  where
    can : (ltb v (length s) ≡ true) × (leb i (length (voice s v)) ≡ true)
    can = two_picks (ltb v (length s)) (leb i (length (voice s v))) (not_turned l y s (put v i e) t).1

    back : changed (changed s (put v i e)) (cut v i) ≡ s
    back = cut_put s v i e (ltb-true _ _ can.0) (leb-true _ _ can.1)

    cuts : turned l y (changed s (put v i e)) (cut v i) ≡ 0
    cuts = turned_not l y (changed s (put v i e)) (cut v i) (and_from _ _ c refl) (cut_can s v i e (ltb-true _ _ can.0) (leb-true _ _ can.1)) (ap (fits l) back ∙ h)

pub undone : Undone
undone l y s v i e cs t c h = ap (λ (x : Score). answers l y x cs) (put_undone l y s v i e t c h)
