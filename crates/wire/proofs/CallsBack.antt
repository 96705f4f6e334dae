-- A call comes back from its bytes, and no other row of bytes is read as that call. Assumes nothing.
use Rattle.std.proofs.Common.{◌≡◌, ℕ, ◌<◌, true, List, [], ◌∷◌, ◌++◌, Ok, sym, refl, ap, ◌∙◌, arith}
use Rattle.std.proofs.lemmas.Bool.{and_parts}
use Rattle.score.specs.Music.{Event, note, silence}
use Rattle.score.specs.Calls.{Call, put, cut, change, show, heard_in, how_long}
use Rattle.score.specs.Promise.{all_below, field, readable_event, readable}
use Rattle.wire.specs.Bytes.{four, event_bytes, call_bytes}
use Rattle.wire.specs.ReadingCalls.{fields_at, read_call}
use Rattle.wire.specs.Faithful.{with_any}
use Rattle.wire.proofs.Numbers.{of_two_two, of_four_four}
use Rattle.wire.proofs.Rows.{all_below_none, all_below_more, all_below-++, four_below, five_below}

pub any_back : (c : Call) (x y : ℕ) → read_call (with_any x y c (call_bytes c)) ≡ Ok c
unfolding fields_at
any_back (put v i (note p a d)) x y = cc (of_four_four v, of_four_four i, of_two_two d)
any_back (put v i (silence d)) x y = cc (of_four_four v, of_four_four i, of_two_two d)
any_back (change v i (note p a d)) x y = cc (of_four_four v, of_four_four i, of_two_two d)
any_back (change v i (silence d)) x y = cc (of_four_four v, of_four_four i, of_two_two d)
any_back (cut v i) x y = cc (of_four_four v, of_four_four i)
any_back (show v b n) x y = cc (of_four_four v, of_four_four b, of_four_four n)
any_back (heard_in a b) x y = cc (of_four_four a, of_four_four b)
any_back (how_long v) x y = ap (λ n. Ok (how_long n)) (of_four_four v)

-- nothing else stands in the two places than the bytes themselves have
as_written : (c : Call) → with_any 0 0 c (call_bytes c) ≡ call_bytes c
as_written (put v i (note p a d)) = refl
as_written (put v i (silence d)) = refl
as_written (change v i (note p a d)) = refl
as_written (change v i (silence d)) = refl
as_written (cut v i) = refl
as_written (show v b n) = refl
as_written (heard_in a b) = refl
as_written (how_long v) = refl

event_below : (e : Event) → readable_event e ≡ true → all_below 256 (event_bytes e) ≡ true
unfolding readable_event
event_below (note p a d) f =
    let x = and_parts _ _ f in
    let y = and_parts _ _ x.1 in
    five_below 0 p a d (omega arith) x.0 y.0 y.1
event_below (silence d) f = five_below 1 0 0 d (omega arith) refl refl f

placed_below : (k v i : ℕ) (bs : List ℕ) → k < 256 → field v ≡ true → field i ≡ true → all_below 256 bs ≡ true → all_below 256 (k ∷ (four v ++ (four i ++ bs))) ≡ true
placed_below k v i bs h f g p = all_below_more 256 k _ h (all_below-++ 256 (four v) _ (four_below v f) (all_below-++ 256 (four i) bs (four_below i g) p))

pub call_below : (c : Call) → readable c ≡ true → all_below 256 (call_bytes c) ≡ true
unfolding readable
call_below (put v i e) f =
    let x = and_parts _ _ f in
    let y = and_parts _ _ x.1 in
    placed_below 0 v i (event_bytes e) (omega arith) x.0 y.0 (event_below e y.1)
call_below (cut v i) f = let x = and_parts _ _ f in placed_below 1 v i [] (omega arith) x.0 x.1 (all_below_none 256)
call_below (change v i e) f =
    let x = and_parts _ _ f in
    let y = and_parts _ _ x.1 in
    placed_below 2 v i (event_bytes e) (omega arith) x.0 y.0 (event_below e y.1)
call_below (show v b n) f =
    let x = and_parts _ _ f in
    let y = and_parts _ _ x.1 in
    placed_below 3 v b (four n) (omega arith) x.0 y.0 (four_below n y.1)
call_below (heard_in a b) f = let x = and_parts _ _ f in placed_below 4 a b [] (omega arith) x.0 x.1 (all_below_none 256)
call_below (how_long v) f = all_below_more 256 5 _ (omega arith) (four_below v f)

pub call_back : (c : Call) → read_call (call_bytes c) ≡ Ok c
call_back c = ap read_call (sym (as_written c)) ∙ any_back c 0 0
