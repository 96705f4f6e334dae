-- A refusal's place is where a row of bytes ceases to be the beginning of a call. Each way of reading is shown to fail rightly if what it goes on
-- with does. Assumes nothing.
use Rattle.std.proofs.Common.{◌≡◌, ℕ, zero, suc, ◌+◌, ◌<◌, true, false, eqb, ◌⊎◌, List, [], ◌∷◌, ◌++◌, length, get_or, take, replicate, Ok, Err, Result, sym, refl, ap, ◌∙◌, subst, inl, inr, zero-add, arith}
use Rattle.std.proofs.lemmas.List.{take_all}
use Rattle.std.proofs.lemmas.Bool.{eqb-true, cases_Bool}
use Rattle.score.specs.Music.{Event, note, silence}
use Rattle.score.specs.Calls.{put, cut, change, show, heard_in, how_long, Answer, refused}
use Rattle.score.specs.Promise.{all_below}
use Rattle.score.proofs.Picks.{pick_false}
use Rattle.wire.specs.Reading.{of_two, of_four}
use Rattle.wire.specs.ReadingCalls.{unfit, then, four_at, event_by, event_at, end_at, fields_at, fields, fields_and_event, call_by, read_call}
use Rattle.wire.specs.Faithful.{PlaceRight}
use Rattle.wire.proofs.Rows.{all_below_none, all_below_more}
use Rattle.wire.proofs.Results.{never, then_read, then_refused}

-- some bytes that begin so are read
abbrev CanRead : {A : Type 0} → (List ℕ → Result A Answer) → List ℕ → Type 0
CanRead {A} r bs = (more : List ℕ) × (x : A) × (all_below 256 more ≡ true) × (r (bs ++ more) ≡ Ok x)

-- a row that goes on at place n is refused i bytes further: up to there it can be read on, and with that byte it cannot, or it ends there
record Fails {A : Type 0} (n : ℕ) (r : List ℕ → Result A Answer) (bs : List ℕ) (e : Answer) : Type 0 where
  i : ℕ
  at : e ≡ refused 1 (n + i)
  up_to : CanRead r (take i bs)
  from_there : (i ≡ length bs) ⊎ (CanRead r (take (suc i) bs) → ⊥)

-- a way of reading from place n on that can succeed, and that fails rightly
record FailsRightly {A : Type 0} (n : ℕ) (r : List ℕ → Result A Answer) : Type 0 where
  can : CanRead r []
  fails : (bs : List ℕ) (e : Answer) → r bs ≡ Err e → Fails n r bs e

place_of : {A : Type 0} (n m : ℕ) (e : Answer) → ◌≡◌ {A = Result A Answer} (unfit n) (Err e) → n ≡ m → e ≡ refused 1 m
place_of n m e p q = cc

-- nothing more
end_fails : {A : Type 0} (n : ℕ) (x : A) → FailsRightly n (λ bs. end_at n bs x)
end_fails n x = record { can = ([], x, all_below_none 256, refl); fails = go }
  where
    go : (bs : List ℕ) (e : Answer) → end_at n bs x ≡ Err e → Fails n (λ bs. end_at n bs x) bs e
    go [] e p = never _ _ (sym p)
    go (b ∷ bs) e p = record { i = 0; at = place_of n (n + 0) e p (omega arith); up_to = ([], x, all_below_none 256, refl); from_there = inr (λ c. never _ _ c.3) }

-- four bytes, what is made of them, and so on
abbrev fourth : {A B : Type 0} → (ℕ → ℕ → ℕ → ℕ → B) → (B → List ℕ → Result A Answer) → ℕ → List ℕ → Result A Answer
fourth {A} {B} f k n bs = then {A = B × List ℕ} (then (four_at n bs) (λ q. Ok (f q.0 q.1 q.2 q.3, q.4))) (λ v. k v.0 v.1)

zeros : (k : ℕ) (bs : List ℕ) → all_below 256 bs ≡ true → all_below 256 (replicate k 0 ++ bs) ≡ true
zeros zero bs h = h
zeros (suc k) bs h = all_below_more 256 0 _ (omega arith) (zeros k bs h)

module _ {A B : Type 0} (f : ℕ → ℕ → ℕ → ℕ → B) (k : B → List ℕ → Result A Answer) (n : ℕ) (after : (b : B) → FailsRightly (n + 4) (k b)) where
  -- so many of the four are missing
  missing : (bs : List ℕ) (e : Answer) (b : B) (z : ℕ) → e ≡ refused 1 (n + length bs)
      → ((more : List ℕ) → fourth f k n (bs ++ (replicate z 0 ++ more)) ≡ k b more) → Fails n (fourth f k n) bs e
  missing bs e b z at full =
      let c = (after b).can in
      record {
        i = length bs;
        at = at;
        up_to =
            (replicate z 0 ++ c.0, c.1, zeros z c.0 c.2, ap (λ l. fourth f k n (l ++ (replicate z 0 ++ c.0))) (take_all (length bs) bs (omega arith)) ∙ full c.0 ∙ c.3);
        from_there = inl refl;
      }

  four_fails : FailsRightly n (fourth f k n)
  four_fails = record { can = let c = (after (f 0 0 0 0)).can in (replicate 4 0 ++ c.0, c.1, zeros 4 c.0 c.2, c.3); fails = go }
    where
      go : (bs : List ℕ) (e : Answer) → fourth f k n bs ≡ Err e → Fails n (fourth f k n) bs e
      go [] e p = missing [] e (f 0 0 0 0) 4 (place_of n _ e p (omega arith)) (λ _. refl)
      go (a ∷ []) e p = missing (a ∷ []) e (f a 0 0 0) 3 (place_of (n + 1) _ e p refl) (λ _. refl)
      go (a ∷ (b ∷ [])) e p = missing (a ∷ (b ∷ [])) e (f a b 0 0) 2 (place_of (n + 2) _ e p refl) (λ _. refl)
      go (a ∷ (b ∷ (c ∷ []))) e p = missing (a ∷ (b ∷ (c ∷ []))) e (f a b c 0) 1 (place_of (n + 3) _ e p refl) (λ _. refl)
      go (a ∷ (b ∷ (c ∷ (d ∷ bs)))) e p =
          let t = (after (f a b c d)).fails bs e p in
          record {
            i = suc (suc (suc (suc t.i)));
            at = t.at ∙ ap (refused 1) (omega arith);
            up_to = t.up_to;
            from_there = elim t.from_there [ inl e ↦ inl (ap (λ l. suc (suc (suc (suc l)))) e) | inr g ↦ inr g ];
          }

-- what follows a first byte that says so can be read on, or nothing can follow it
abbrev Known : {A : Type 0} → ℕ → (ℕ → List ℕ → Result A Answer) → ℕ → Type 0
Known n by b = FailsRightly (n + 1) (by b) ⊎ ((bs : List ℕ) → by b bs ≡ unfit n)

-- a first byte that says what follows
module _ {A : Type 0} (n : ℕ) (r : List ℕ → Result A Answer) (by : ℕ → List ℕ → Result A Answer) (none : r [] ≡ unfit n)
    (some : (b : ℕ) (bs : List ℕ) → r (b ∷ bs) ≡ by b bs) (good : ℕ) (below : good < 256) (goes : FailsRightly (n + 1) (by good))
    (each : (b : ℕ) → Known n by b) where
  start : CanRead r []
  start = let c = goes.can in (good ∷ c.0, c.1, all_below_more 256 good _ below c.2, some good c.0 ∙ c.3)

  first_fails : FailsRightly n r
  first_fails = record { can = start; fails = go }
    where
      go : (bs : List ℕ) (e : Answer) → r bs ≡ Err e → Fails n r bs e
      go [] e p = record { i = 0; at = place_of n (n + 0) e (sym none ∙ p) (omega arith); up_to = start; from_there = inl refl }
      go (b ∷ bs) e p =
          elim (each b) [
            | inl f ↦
                let t = f.fails bs e (sym (some b bs) ∙ p) in
                let c = t.up_to in
                record {
                  i = suc t.i;
                  at = t.at ∙ ap (refused 1) (omega arith);
                  up_to = (c.0, c.1, c.2, some b (take t.i bs ++ c.0) ∙ c.3);
                  from_there = elim t.from_there [ inl e ↦ inl (ap suc e) | inr g ↦ inr (λ d. g (d.0, d.1, d.2, sym (some b (take (suc t.i) bs ++ d.0)) ∙ d.3)) ];
                }
            | inr g ↦
                record { i = 0; at = place_of n (n + 0) e (sym (g bs) ∙ sym (some b bs) ∙ p) (omega arith); up_to = start; from_there = inr (λ d. never _ _ (sym (g d.0) ∙ sym (some b d.0) ∙ d.3)) }
          ]

-- what is read, as something else
module _ {A B : Type 0} (n : ℕ) (r : List ℕ → Result A Answer) (f : A → B) (reads : FailsRightly n r) where
  abbrev as_other : List ℕ → Result B Answer
  as_other bs = then (r bs) (λ x. Ok (f x))

  can_other : (bs : List ℕ) → CanRead r bs → CanRead as_other bs
  can_other bs c = (c.0, f c.1, c.2, ap (λ z. then z (λ x. Ok (f x))) c.3)

  can_this : (bs : List ℕ) → CanRead as_other bs → CanRead r bs
  can_this bs c = let t = then_read (r (bs ++ c.0)) (λ x. Ok (f x)) c.1 c.3 in (c.0, t.0, c.2, t.1)

  other_fails : FailsRightly n as_other
  other_fails = record { can = can_other [] reads.can; fails = go }
    where
      go : (bs : List ℕ) (e : Answer) → as_other bs ≡ Err e → Fails n as_other bs e
      go bs e p =
          let t = reads.fails bs e (then_refused (r bs) f e p) in
          record {
            i = t.i;
            at = t.at;
            up_to = can_other (take t.i bs) t.up_to;
            from_there = elim t.from_there [ inl e ↦ inl e | inr g ↦ inr (λ c. g (can_this (take (suc t.i) bs) c)) ];
          }

-- a byte is this one, or another
this_or_else :
    {A : Type 0} {n : ℕ} (by : ℕ → List ℕ → Result A Answer) (b m : ℕ) → FailsRightly (n + 1) (by m)
    → (eqb b m ≡ false → Known n by b) → Known n by b
this_or_else {n = n} by b m here there =
    elim (cases_Bool (eqb b m)) [ inl e ↦ inl (subst (λ c. FailsRightly (n + 1) (by c)) (sym (eqb-true b m e)) here) | inr e ↦ there e ]

-- an event, and so on
abbrev eventh : {A : Type 0} → (Event → List ℕ → Result A Answer) → ℕ → ℕ → List ℕ → Result A Answer
eventh k n b bs = then {A = Event × List ℕ} (event_by n b bs) (λ e. k e.0 e.1)

module _ {A : Type 0} (k : Event → List ℕ → Result A Answer) (n : ℕ) (after : (e : Event) → FailsRightly (n + 1 + 4) (k e)) where
  note_fails : FailsRightly (n + 1) (eventh k n 0)
  note_fails = four_fails (λ p a l h. note p a (of_two l h)) k (n + 1) after

  silence_fails : FailsRightly (n + 1) (eventh k n 1)
  silence_fails = four_fails (λ p a l h. silence (of_two l h)) k (n + 1) after

  each_kind : (b : ℕ) → Known n (eventh k n) b
  each_kind b =
      this_or_else (eventh k n) b 0 note_fails (λ c.
      this_or_else (eventh k n) b 1 silence_fails (λ d. inr (λ bs. ap (λ z. then z (λ e. k e.0 e.1)) (pick_false _ _ _ c ∙ pick_false _ _ _ d))))

  event_fails : FailsRightly n (λ bs. then {A = Event × List ℕ} (event_at n bs) (λ e. k e.0 e.1))
  event_fails = first_fails n _ (eventh k n) refl (λ _ _. refl) 0 (omega arith) note_fails each_kind

-- what follows a call's number
fields_fail : (n m : ℕ) → FailsRightly n (fields_at n m)
unfolding fields_at
fields_fail n zero = end_fails n []
fields_fail n (suc m) = four_fails of_four _ n (λ v. other_fails (n + 4) (fields_at (n + 4) m) (λ vs. v ∷ vs) (fields_fail (n + 4) m))

placed_fails : FailsRightly 1 fields_and_event
placed_fails = four_fails of_four _ 1 (λ v. four_fails of_four _ 5 (λ i. event_fails _ 9 (λ e. end_fails 14 (v, i, e))))

put_fails : FailsRightly 1 (call_by 0)
put_fails = other_fails 1 fields_and_event (λ x. put x.0 x.1 x.2) placed_fails

each_number : (b : ℕ) → Known 0 call_by b
each_number b =
    this_or_else call_by b 0 put_fails (λ c.
    this_or_else call_by b 1 (other_fails 1 (fields 2) (λ x. cut (get_or x 0 0) (get_or x 1 0)) (fields_fail 1 2)) (λ d.
    this_or_else call_by b 2 (other_fails 1 fields_and_event (λ x. change x.0 x.1 x.2) placed_fails) (λ e.
    this_or_else call_by b 3 (other_fails 1 (fields 3) (λ x. show (get_or x 0 0) (get_or x 1 0) (get_or x 2 0)) (fields_fail 1 3)) (λ f.
    this_or_else call_by b 4 (other_fails 1 (fields 2) (λ x. heard_in (get_or x 0 0) (get_or x 1 0)) (fields_fail 1 2)) (λ g.
    this_or_else call_by b 5 (other_fails 1 (fields 1) (λ x. how_long (get_or x 0 0)) (fields_fail 1 1)) (λ h.
    inr (λ bs. pick_false _ _ _ c ∙ pick_false _ _ _ d ∙ pick_false _ _ _ e ∙ pick_false _ _ _ f ∙ pick_false _ _ _ g ∙ pick_false _ _ _ h)))))))

call_fails : FailsRightly 0 read_call
call_fails = first_fails 0 read_call call_by refl (λ _ _. refl) 0 (omega arith) put_fails each_number

pub place_right : PlaceRight
place_right bs a p =
    let t = call_fails.fails bs a p in
    (t.i, t.at ∙ ap (refused 1) (zero-add t.i), t.up_to, t.from_there)
