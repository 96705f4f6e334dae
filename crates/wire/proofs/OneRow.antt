-- A row of bytes that is read as a call is that call's row, but for the two bytes that are not looked at. Assumes nothing.
use Rattle.std.proofs.Common.{◌≡◌, ℕ, zero, suc, ◌+◌, ◌*◌, ◌/◌, ◌%◌, ◌<◌, true, eqb, ltb, List, [], ◌∷◌, ◌++◌, length, get_or, Ok, Result, sym, refl, ap, ◌∙◌, subst, arith}
use Rattle.std.proofs.lemmas.Bool.{and_from, lt-ltb, eqb-true}
use Rattle.std.proofs.lemmas.List.{append-nil}
use Rattle.score.specs.Music.{pick, length_end, Event, note, silence}
use Rattle.score.specs.Calls.{Call, put, cut, change, show, heard_in, how_long, Answer}
use Rattle.score.specs.Promise.{all_below, field, readable_event, readable}
use Rattle.score.proofs.Picks.{pick_both}
use Rattle.wire.specs.Bytes.{two, four, each, call_bytes}
use Rattle.wire.specs.Reading.{of_two, of_four}
use Rattle.wire.specs.ReadingCalls.{then, four_at, field_at, note_at, silence_at, event_at, end_at, fields_at, fields, fields_and_event}
use Rattle.wire.specs.Faithful.{with_any, OneRow}
use Rattle.wire.proofs.Rows.{below_first}
use Rattle.wire.proofs.Results.{never, then_read}

four_read : (n : ℕ) (bs : List ℕ) (q : ℕ × ℕ × ℕ × ℕ × List ℕ) → four_at n bs ≡ Ok q → bs ≡ q.0 ∷ (q.1 ∷ (q.2 ∷ (q.3 ∷ q.4)))
four_read n [] q p = never _ _ p
four_read n (a ∷ []) q p = never _ _ p
four_read n (a ∷ (b ∷ [])) q p = never _ _ p
four_read n (a ∷ (b ∷ (c ∷ []))) q p = never _ _ p
four_read n (a ∷ (b ∷ (c ∷ (d ∷ bs)))) q p = cc

end_read : {A : Type 0} (n : ℕ) (bs : List ℕ) (x y : A) → end_at n bs x ≡ Ok y → (bs ≡ []) × (x ≡ y)
end_read n [] x y p = (refl, cc)
end_read n (b ∷ bs) x y p = never _ _ p

two_of : (a b : ℕ) → a < 256 → b < 256 → (two (of_two a b) ≡ a ∷ (b ∷ [])) × (ltb (of_two a b) length_end ≡ true)
two_of a b h k =
    let low : of_two a b % 256 ≡ a = omega arith in
    let high : of_two a b / 256 ≡ b = omega arith in
    (cc, lt-ltb _ _ (omega arith))

low_byte : (n b m : ℕ) → b < 256 → n ≡ b + m * 256 → n % 256 ≡ b
low_byte n b m h e = omega arith

four_of : (a b c d : ℕ) → a < 256 → b < 256 → c < 256 → d < 256 → (four (of_four a b c d) ≡ a ∷ (b ∷ (c ∷ (d ∷ [])))) × (field (of_four a b c d) ≡ true)
four_of a b c d h i j k =
    let p : of_four a b c d % 256 ≡ a = omega arith in
    let q : of_four a b c d / 256 % 256 ≡ b = low_byte _ b (c + d * 256) i (omega arith) in
    let r : of_four a b c d / 65536 % 256 ≡ c = low_byte _ c d j (omega arith) in
    let s : of_four a b c d / 16777216 ≡ d = omega arith in
    (cc, lt-ltb _ _ (omega arith))

-- what was made of four bytes, and what is behind them
record FourRead {A : Type 0} (f : ℕ → ℕ → ℕ → ℕ → A) (bs : List ℕ) (x : A) (rest : List ℕ) : Type 0 where
  a : ℕ
  b : ℕ
  c : ℕ
  d : ℕ
  a_below : a < 256
  b_below : b < 256
  c_below : c < 256
  d_below : d < 256
  made : x ≡ f a b c d
  row : bs ≡ a ∷ (b ∷ (c ∷ (d ∷ rest)))
  below : all_below 256 rest ≡ true

made_read :
    {A : Type 0} (f : ℕ → ℕ → ℕ → ℕ → A) (n : ℕ) (bs : List ℕ) (x : A × List ℕ) → all_below 256 bs ≡ true
    → then (four_at n bs) (λ q. Ok (f q.0 q.1 q.2 q.3, q.4)) ≡ Ok x → FourRead f bs x.0 x.1
made_read f n bs x h p =
    let t = then_read (four_at n bs) (λ q. Ok (f q.0 q.1 q.2 q.3, q.4)) x p in
    let q = t.0 in
    let made : x.0 ≡ f q.0 q.1 q.2 q.3 = cc t.2 in
    let rest : q.4 ≡ x.1 = cc t.2 in
    let row = four_read n bs q t.1 ∙ ap (λ r. q.0 ∷ (q.1 ∷ (q.2 ∷ (q.3 ∷ r)))) rest in
    let one = below_first q.0 _ (subst (λ l. all_below 256 l ≡ true) row h) in
    let two = below_first q.1 _ one.1 in
    let three = below_first q.2 _ two.1 in
    let last = below_first q.3 x.1 three.1 in
    record {
      a = q.0;
      b = q.1;
      c = q.2;
      d = q.3;
      a_below = one.0;
      b_below = two.0;
      c_below = three.0;
      d_below = last.0;
      made = made;
      row = row;
      below = last.1;
    }

-- a number
record FieldRead (bs : List ℕ) (v : ℕ) (rest : List ℕ) : Type 0 where
  row : bs ≡ four v ++ rest
  fits : field v ≡ true
  below : all_below 256 rest ≡ true

field_read : (n : ℕ) (bs : List ℕ) (x : ℕ × List ℕ) → all_below 256 bs ≡ true → field_at n bs ≡ Ok x → FieldRead bs x.0 x.1
field_read n bs x h p =
    let t = made_read of_four n bs x h p in
    let o = four_of t.a t.b t.c t.d t.a_below t.b_below t.c_below t.d_below in
    record {
      row = t.row ∙ ap (λ f. f ++ x.1) (sym o.0) ∙ ap (λ n. four n ++ x.1) (sym t.made);
      fits = subst (λ n. field n ≡ true) (sym t.made) o.1;
      below = t.below;
    }

-- an event, with what stands in the two places of a silence that are not looked at
abbrev event_with : ℕ → ℕ → Event → List ℕ
event_with x y (note p a d) = 0 ∷ (p ∷ (a ∷ two d))
event_with x y (silence d) = 1 ∷ (x ∷ (y ∷ two d))

record EventRead (bs : List ℕ) (e : Event) (rest : List ℕ) : Type 0 where
  x : ℕ
  y : ℕ
  row : bs ≡ event_with x y e ++ rest
  fits : readable_event e ≡ true
  below : all_below 256 rest ≡ true

note_read : (n : ℕ) (bs : List ℕ) (x : Event × List ℕ) → all_below 256 bs ≡ true → note_at n bs ≡ Ok x → EventRead (0 ∷ bs) x.0 x.1
unfolding readable_event
note_read n bs x h p =
    let f : ℕ → ℕ → ℕ → ℕ → Event = λ p a l h. note p a (of_two l h) in
    let t = made_read f n bs x h p in
    let o = two_of t.c t.d t.c_below t.d_below in
    subst (λ e. EventRead (0 ∷ bs) e x.1) (sym t.made)
    record {
      x = 0;
      y = 0;
      row = ap (λ r. 0 ∷ r) t.row ∙ ap (λ f. 0 ∷ (t.a ∷ (t.b ∷ (f ++ x.1)))) (sym o.0);
      fits = and_from _ _ (lt-ltb t.a 256 t.a_below) (and_from _ _ (lt-ltb t.b 256 t.b_below) o.1);
      below = t.below;
    }

silence_read : (n : ℕ) (bs : List ℕ) (x : Event × List ℕ) → all_below 256 bs ≡ true → silence_at n bs ≡ Ok x → EventRead (1 ∷ bs) x.0 x.1
unfolding readable_event
silence_read n bs x h p =
    let f : ℕ → ℕ → ℕ → ℕ → Event = λ p a l h. silence (of_two l h) in
    let t = made_read f n bs x h p in
    let o = two_of t.c t.d t.c_below t.d_below in
    subst (λ e. EventRead (1 ∷ bs) e x.1) (sym t.made)
    record {
      x = t.a;
      y = t.b;
      row = ap (λ r. 1 ∷ r) t.row ∙ ap (λ f. 1 ∷ (t.a ∷ (t.b ∷ (f ++ x.1)))) (sym o.0);
      fits = o.1;
      below = t.below;
    }

event_read : (n : ℕ) (bs : List ℕ) (x : Event × List ℕ) → all_below 256 bs ≡ true → event_at n bs ≡ Ok x → EventRead bs x.0 x.1
event_read n [] x h p = never _ _ p
event_read n (k ∷ bs) x h p =
    let b = (below_first k bs h).1 in
    pick_both (λ r. r ≡ Ok x → EventRead (k ∷ bs) x.0 x.1) (eqb k 0) _ _
    (λ e q. subst (λ m. EventRead (m ∷ bs) x.0 x.1) (sym (eqb-true k 0 e)) (note_read (n + 1) bs x b q))
    (λ _. pick_both (λ r. r ≡ Ok x → EventRead (k ∷ bs) x.0 x.1) (eqb k 1) _ _
    (λ e q. subst (λ m. EventRead (m ∷ bs) x.0 x.1) (sym (eqb-true k 1 e)) (silence_read (n + 1) bs x b q))
    (λ _ q. never _ _ q))
    p

-- one that fits before others that fit
fits : (v : ℕ) (vs : List ℕ) (m : ℕ) → field v ≡ true → ((k : ℕ) → k < m → field (get_or vs k 0) ≡ true) → (k : ℕ) → k < suc m → field (get_or (v ∷ vs) k 0) ≡ true
fits v vs m h g zero l = h
fits v vs m h g (suc k) l = g k (omega arith)

-- so many numbers, and nothing more
record FieldsRead (bs vs : List ℕ) (m : ℕ) : Type 0 where
  row : bs ≡ each four vs
  long : length vs ≡ m
  fit : (k : ℕ) → k < m → field (get_or vs k 0) ≡ true

fields_read : (n m : ℕ) (bs vs : List ℕ) → all_below 256 bs ≡ true → fields_at n m bs ≡ Ok vs → FieldsRead bs vs m
unfolding each fields_at
fields_read n zero bs vs h p =
    let e = end_read n bs [] vs p in
    record { row = e.0 ∙ ap (each four) e.1; long = ap length (sym e.1); fit = λ k l. absurd (omega arith) }
fields_read n (suc m) bs vs h p =
    let s = then_read (field_at n bs) (λ v. then (fields_at (n + 4) m v.1) (λ vs. Ok (v.0 ∷ vs))) vs p in
    let f = field_read n bs s.0 h s.1 in
    let t = then_read (fields_at (n + 4) m s.0.1) (λ vs. Ok (s.0.0 ∷ vs)) vs s.2 in
    let g = fields_read (n + 4) m s.0.1 t.0 f.below t.1 in
    let all : s.0.0 ∷ t.0 ≡ vs = cc t.2 in
    subst (λ z. FieldsRead bs z (suc m)) all
    record { row = f.row ∙ ap (λ r. four s.0.0 ++ r) g.row; long = ap suc g.long; fit = fits s.0.0 t.0 m f.fits g.fit }

-- two numbers, and what follows them
record PlacedRead {A : Type 0} (k : ℕ → ℕ → List ℕ → Result A Answer) (bs : List ℕ) (x : A) : Type 0 where
  v : ℕ
  i : ℕ
  rest : List ℕ
  row : bs ≡ four v ++ (four i ++ rest)
  v_fits : field v ≡ true
  i_fits : field i ≡ true
  below : all_below 256 rest ≡ true
  then_so : k v i rest ≡ Ok x

placed_read :
    {A : Type 0} (k : ℕ → ℕ → List ℕ → Result A Answer) (bs : List ℕ) (x : A) → all_below 256 bs ≡ true
    → then (field_at 1 bs) (λ v. then (field_at 5 v.1) (λ i. k v.0 i.0 i.1)) ≡ Ok x → PlacedRead k bs x
placed_read k bs x h p =
    let s = then_read (field_at 1 bs) (λ v. then (field_at 5 v.1) (λ i. k v.0 i.0 i.1)) x p in
    let f = field_read 1 bs s.0 h s.1 in
    let t = then_read (field_at 5 s.0.1) (λ i. k s.0.0 i.0 i.1) x s.2 in
    let g = field_read 5 s.0.1 t.0 f.below t.1 in
    record {
      v = s.0.0;
      i = t.0.0;
      rest = t.0.1;
      row = f.row ∙ ap (λ r. four s.0.0 ++ r) g.row;
      v_fits = f.fits;
      i_fits = g.fits;
      below = g.below;
      then_so = t.2;
    }

-- two numbers, what follows them, and nothing more
nothing_behind :
    (bs rest front left : List ℕ) (v i : ℕ) → bs ≡ four v ++ (four i ++ rest) → rest ≡ front ++ left → left ≡ [] → bs ≡ four v ++ (four i ++ front)
nothing_behind bs rest front left v i p q e = p ∙ ap (λ r. four v ++ (four i ++ r)) (q ∙ ap (λ l. front ++ l) e ∙ append-nil front)

record PlacedEvent (bs : List ℕ) (z : ℕ × ℕ × Event) : Type 0 where
  x : ℕ
  y : ℕ
  row : bs ≡ four z.0 ++ (four z.1 ++ event_with x y z.2)
  v_fits : field z.0 ≡ true
  i_fits : field z.1 ≡ true
  e_fits : readable_event z.2 ≡ true

placed_event_read : (bs : List ℕ) (z : ℕ × ℕ × Event) → all_below 256 bs ≡ true → fields_and_event bs ≡ Ok z → PlacedEvent bs z
placed_event_read bs z h p =
    let t = placed_read (λ v i r. then (event_at 9 r) (λ e. end_at 14 e.1 (v, i, e.0))) bs z h p in
    let s = then_read (event_at 9 t.rest) (λ e. end_at 14 e.1 (t.v, t.i, e.0)) z t.then_so in
    let f = event_read 9 t.rest s.0 t.below s.1 in
    let e = end_read 14 s.0.1 (t.v, t.i, s.0.0) z s.2 in
    subst (PlacedEvent bs) e.1
    record {
      x = f.x;
      y = f.y;
      row = nothing_behind bs t.rest (event_with f.x f.y s.0.0) s.0.1 t.v t.i t.row f.row e.0;
      v_fits = t.v_fits;
      i_fits = t.i_fits;
      e_fits = f.fits;
    }

-- of a call that is read, that its numbers fit, and its row
abbrev ItsRow : List ℕ → Call → Type 0
ItsRow bs c = (readable c ≡ true) × ((x : ℕ) × (y : ℕ) × (bs ≡ with_any x y c (call_bytes c)))

put_row : (bs : List ℕ) (v i : ℕ) (e : Event) → PlacedEvent bs (v, i, e) → ItsRow (0 ∷ bs) (put v i e)
unfolding readable
put_row bs v i (note p a d) t = (and_from _ _ t.v_fits (and_from _ _ t.i_fits t.e_fits), (t.x, t.y, ap (λ r. 0 ∷ r) t.row))
put_row bs v i (silence d) t = (and_from _ _ t.v_fits (and_from _ _ t.i_fits t.e_fits), (t.x, t.y, ap (λ r. 0 ∷ r) t.row))

change_row : (bs : List ℕ) (v i : ℕ) (e : Event) → PlacedEvent bs (v, i, e) → ItsRow (2 ∷ bs) (change v i e)
unfolding readable
change_row bs v i (note p a d) t = (and_from _ _ t.v_fits (and_from _ _ t.i_fits t.e_fits), (t.x, t.y, ap (λ r. 2 ∷ r) t.row))
change_row bs v i (silence d) t = (and_from _ _ t.v_fits (and_from _ _ t.i_fits t.e_fits), (t.x, t.y, ap (λ r. 2 ∷ r) t.row))

-- a call that is a number and so many fields
fields_row :
    (k m : ℕ) (f : List ℕ → Call) → ((vs : List ℕ) → length vs ≡ m → ((k : ℕ) → k < m → field (get_or vs k 0) ≡ true) → readable (f vs) ≡ true)
    → ((vs : List ℕ) → length vs ≡ m → k ∷ each four vs ≡ with_any 0 0 (f vs) (call_bytes (f vs)))
    → (bs vs : List ℕ) → all_below 256 bs ≡ true → fields m bs ≡ Ok vs → ItsRow (k ∷ bs) (f vs)
fields_row k m f fit row bs vs h p =
    let t = fields_read 1 m bs vs h p in (fit vs t.long t.fit, (0, 0, ap (λ r. k ∷ r) t.row ∙ row vs t.long))

-- a call of number m, by what follows the number, or another
or_else :
    {A : Type 0} (k m : ℕ) (bs : List ℕ) (c : Call) (r : Result A Answer) (f : A → Call) (other : Result Call Answer)
    → ((x : A) → r ≡ Ok x → ItsRow (m ∷ bs) (f x)) → (other ≡ Ok c → ItsRow (k ∷ bs) c)
    → pick (eqb k m) (then r (λ x. Ok (f x))) other ≡ Ok c → ItsRow (k ∷ bs) c
or_else k m bs c r f other here there =
    pick_both (λ z. z ≡ Ok c → ItsRow (k ∷ bs) c) (eqb k m) _ other
    (λ e p.
    let t = then_read r (λ x. Ok (f x)) c p in
    let same : f t.0 ≡ c = cc t.2 in
    subst (λ n. ItsRow (n ∷ bs) c) (sym (eqb-true k m e)) (subst (ItsRow (m ∷ bs)) same (here t.0 t.1)))
    (λ _. there)

one_field : (vs : List ℕ) → length vs ≡ 1 → vs ≡ get_or vs 0 0 ∷ []
one_field [] h = cc
one_field (a ∷ []) h = refl
one_field (a ∷ (b ∷ vs)) h = cc

two_fields : (vs : List ℕ) → length vs ≡ 2 → vs ≡ get_or vs 0 0 ∷ (get_or vs 1 0 ∷ [])
two_fields [] h = cc
two_fields (a ∷ vs) h = ap (λ r. a ∷ r) (one_field vs (omega arith))

three_fields : (vs : List ℕ) → length vs ≡ 3 → vs ≡ get_or vs 0 0 ∷ (get_or vs 1 0 ∷ (get_or vs 2 0 ∷ []))
three_fields [] h = cc
three_fields (a ∷ vs) h = ap (λ r. a ∷ r) (two_fields vs (omega arith))

pub one_row : OneRow
unfolding readable each
one_row [] c h p = never _ _ p
one_row (k ∷ bs) c h p =
    let b = (below_first k bs h).1 in
    or_else k 0 bs c (fields_and_event bs) (λ x. put x.0 x.1 x.2) _ (λ x e. put_row bs x.0 x.1 x.2 (placed_event_read bs x b e))
    (or_else k 1 bs c (fields 2 bs) (λ x. cut (get_or x 0 0) (get_or x 1 0)) _
    (λ x e. fields_row 1 2 (λ x. cut (get_or x 0 0) (get_or x 1 0)) (λ vs _ f. and_from _ _ (f 0 (omega arith)) (f 1 (omega arith)))
    (λ vs l. ap (λ r. 1 ∷ each four r) (two_fields vs l)) bs x b e)
    (or_else k 2 bs c (fields_and_event bs) (λ x. change x.0 x.1 x.2) _ (λ x e. change_row bs x.0 x.1 x.2 (placed_event_read bs x b e))
    (or_else k 3 bs c (fields 3 bs) (λ x. show (get_or x 0 0) (get_or x 1 0) (get_or x 2 0)) _
    (λ x e. fields_row 3 3 (λ x. show (get_or x 0 0) (get_or x 1 0) (get_or x 2 0))
    (λ vs _ f. and_from _ _ (f 0 (omega arith)) (and_from _ _ (f 1 (omega arith)) (f 2 (omega arith))))
    (λ vs l. ap (λ r. 3 ∷ each four r) (three_fields vs l)) bs x b e)
    (or_else k 4 bs c (fields 2 bs) (λ x. heard_in (get_or x 0 0) (get_or x 1 0)) _
    (λ x e. fields_row 4 2 (λ x. heard_in (get_or x 0 0) (get_or x 1 0)) (λ vs _ f. and_from _ _ (f 0 (omega arith)) (f 1 (omega arith)))
    (λ vs l. ap (λ r. 4 ∷ each four r) (two_fields vs l)) bs x b e)
    (or_else k 5 bs c (fields 1 bs) (λ x. how_long (get_or x 0 0)) _
    (λ x e. fields_row 5 1 (λ x. how_long (get_or x 0 0)) (λ vs _ f. f 0 (omega arith)) (λ vs l. ap (λ r. 5 ∷ each four r) (one_field vs l)) bs x b e)
    (λ q. never _ _ q))))))
    p
