-- A player's step is what the definition of reading says of one symbol. Assumes nothing.
use Rattle.std.proofs.Common.{◌≡◌, ℕ, zero, suc, ◌+◌, ◌-◌, ◌<◌, Bool, true, false, eqb, List, [], ◌∷◌, ◌++◌, length, set, sym, refl, ap, ◌∙◌, ap₂, append_assoc, arith}
use Rattle.std.proofs.lemmas.List.{append-nil}
use Rattle.std.proofs.lemmas.Bool.{and_parts, ltb-true, ne_eqb}
use Rattle.score.specs.Music.{pick, places, Heard}
use Rattle.score.specs.Print.{Symbol, bar, head, rest, Held, nothing, held, let_go, goes_on, longer, altered, then_holds, reads, read_from}
use Rattle.score.proofs.Picks.{pick_false}
use Rattle.keys.specs.Held.{key_row, held_in}
use Rattle.keys.proofs.Holding.{held_at, held_key, held_set}
use Rattle.reading.specs.Player.{State, can_play, lasts, said, then_held, after, after_head, ends}

-- what is still to be heard by a player
unfoldable pub to_hear : ℕ → List Symbol → State → List Heard
to_hear k xs y = reads k xs y.time (held_in k y.holds) y.note

-- a sign, as words say what holds
no_zero : (a : ℕ) → eqb (suc a) 0 ≡ false
no_zero a = ne_eqb (suc a) 0 (λ z. omega arith)

altered_said : (k : ℕ) (hs : List ℕ) (p s : ℕ) → p < places → altered (held_in k hs) p s ≡ said hs p s
unfolding altered
altered_said k hs p zero h = held_at k hs p h
altered_said k hs p (suc a) h = let e : a ≡ suc a - 1 = omega arith in e ∙ sym (pick_false _ _ _ (no_zero a))

holds_then : (k : ℕ) (hs : List ℕ) (p s : ℕ) → p < places → length hs ≡ places → then_holds (held_in k hs) p s ≡ held_in k (then_held hs p s)
unfolding then_holds
holds_then k hs p zero h l = refl
holds_then k hs p (suc a) h l =
    let e : a ≡ suc a - 1 = omega arith in
    sym (held_set k hs p a h (omega arith)) ∙ ap (λ (b : ℕ). held_in k (set hs p b)) e ∙ ap (held_in k) (sym (pick_false _ _ _ (no_zero a)))

-- a note is tied on, or it has ended
tied_or_ended : (k : ℕ) (xs : List Symbol) (t : ℕ) (st : ℕ → ℕ) (n : Held) (tied : Bool) →
    pick tied (reads k xs t st n) (let_go n ++ reads k xs t st nothing) ≡ pick tied [] (let_go n) ++ reads k xs t st (pick tied n nothing)
tied_or_ended k xs t st n true = refl
tied_or_ended k xs t st n false = refl

head_step : (k p s v : ℕ) (tied : Bool) (xs : List Symbol) (y : State) → p < places → length y.holds ≡ places →
    to_hear k (head p s v tied ∷ xs) y ≡ ends (head p s v tied) y ++ to_hear k xs (after_head p s v tied y)
unfolding to_hear reads
head_step k p s v tied xs y h l = go (goes_on y.note p s)
  where
    go : (c : Bool) →
        pick c
        (pick tied (reads k xs (y.time + v) (held_in k y.holds) (longer y.note v)) (let_go (longer y.note v) ++ reads k xs (y.time + v) (held_in k y.holds) nothing))
        (let_go y.note ++ pick tied (reads k xs (y.time + v) (then_holds (held_in k y.holds) p s) (held p (altered (held_in k y.holds) p s) y.time v))
        (let_go (held p (altered (held_in k y.holds) p s) y.time v) ++ reads k xs (y.time + v) (then_holds (held_in k y.holds) p s) nothing))
        ≡ (pick c [] (let_go y.note) ++ pick tied [] (let_go (pick c (longer y.note v) (held p (said y.holds p s) y.time v))))
        ++ reads k xs (y.time + v) (held_in k (pick c y.holds (then_held y.holds p s))) (pick tied (pick c (longer y.note v) (held p (said y.holds p s) y.time v)) nothing)
    go true = tied_or_ended k xs (y.time + v) (held_in k y.holds) (longer y.note v) tied
    go false =
        ap₂ (λ (a : ℕ) (st : ℕ → ℕ). let_go y.note ++ pick tied (reads k xs (y.time + v) st (held p a y.time v)) (let_go (held p a y.time v) ++ reads k xs (y.time + v) st nothing))
        (altered_said k y.holds p s h) (holds_then k y.holds p s h l)
        ∙ ap (λ (hs : List Heard). let_go y.note ++ hs) (tied_or_ended k xs (y.time + v) (held_in k (then_held y.holds p s)) (held p (said y.holds p s) y.time v) tied)
        ∙ sym (append_assoc (let_go y.note) _ _)

pub step : (k : ℕ) (x : Symbol) (xs : List Symbol) (y : State) → can_play x ≡ true → length y.holds ≡ places → to_hear k (x ∷ xs) y ≡ ends x y ++ to_hear k xs (after k x y)
unfolding to_hear reads
step k bar xs y c l = ap (λ (st : ℕ → ℕ). reads k xs y.time st y.note) (sym (held_key k (key_row k) refl))
step k (rest v) xs y c l = ap (λ (hs : List Heard). hs ++ reads k xs (y.time + v) (held_in k y.holds) nothing) (sym (append-nil (let_go y.note)))
step k (head p s v tied) xs y c l = head_step k p s v tied xs y (ltb-true p places (and_parts _ _ c).0) l

pub time_after : (k : ℕ) (x : Symbol) (y : State) → (after k x y).time ≡ y.time + lasts x
time_after k bar y = omega arith
time_after k (rest v) y = refl
time_after k (head p s v tied) y = refl

-- where reading begins, and where no symbol is left
pub begins : (k : ℕ) (xs : List Symbol) (hs : List ℕ) → hs ≡ key_row k → to_hear k xs (record { time = 0; holds = hs; note = nothing }) ≡ read_from k xs
unfolding to_hear
begins k xs hs e = ap (λ (st : ℕ → ℕ). reads k xs 0 st nothing) (held_key k hs e)

pub ends_all : (k : ℕ) (y : State) → to_hear k [] y ≡ let_go y.note
unfolding to_hear reads
ends_all k y = refl
