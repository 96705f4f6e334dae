-- Three rows as one, and the voice that they are. Assumes nothing.
use Rattle.std.proofs.Common.{◌≡◌, ℕ, List, [], ◌∷◌, map, length, sym, refl, ap, arith, rules}
use Rattle.std.proofs.lemmas.List.{nil_from_length}
use Rattle.laws.specs.Rows.{voice_of}
use Rattle.rows.specs.Rows.{event_in, zipped}

-- where one row is over, all are
pub no_places : (ps xs ds : List ℕ) → length ps ≡ 0 → zipped ps xs ds ≡ []
unfolding zipped
no_places ps xs ds e = rw (nil_from_length ps e) refl

pub no_alterations : (ps xs ds : List ℕ) → length xs ≡ 0 → zipped ps xs ds ≡ []
unfolding zipped
no_alterations [] xs ds e = refl
no_alterations (p ∷ ps) xs ds e = rw (nil_from_length xs e) refl

pub no_lengths : (ps xs ds : List ℕ) → length ds ≡ 0 → zipped ps xs ds ≡ []
unfolding zipped
no_lengths [] xs ds e = refl
no_lengths (p ∷ ps) [] ds e = refl
no_lengths (p ∷ ps) (a ∷ xs) ds e = rw (nil_from_length ds e) refl

-- the events of a voice are those of its rows
pub voice_zipped : (ps xs ds : List ℕ) → voice_of ps xs ds ≡ map event_in (zipped ps xs ds)
unfolding zipped voice_of
voice_zipped [] xs ds = refl
voice_zipped (p ∷ ps) [] ds = refl
voice_zipped (p ∷ ps) (a ∷ xs) [] = refl
voice_zipped (p ∷ ps) (a ∷ xs) (d ∷ ds) = ap (λ es. event_in (record { place = p; alteration = a; length = d }) ∷ es) (voice_zipped ps xs ds)

-- of rows that are as long as each other there are as many events as words in each
pub zipped_even : (ps xs ds : List ℕ) → length ps ≡ length ds → length xs ≡ length ds → length (zipped ps xs ds) ≡ length ds
unfolding zipped
zipped_even [] xs ds e f = rw (nil_from_length ds (sym e)) refl
zipped_even (p ∷ ps) [] ds e f = rw (nil_from_length ds (sym f)) refl
zipped_even (p ∷ ps) (a ∷ xs) [] e f = search (rules, arith)
zipped_even (p ∷ ps) (a ∷ xs) (d ∷ ds) e f = grind (arith, zipped_even ps xs ds)
