-- What is printed of a voice and then heard of the print. Assumes nothing: these are definitions.
use Rattle.std.specs.Prelude.{◌≡◌, ℕ, List, ◌++◌, map, length, take, drop, Ok, Err, Result}
use Rattle.score.specs.declared.Refusal.{Refusal}
use Rattle.score.specs.Music.{heard}
use Rattle.score.specs.Print.{printed}
use Rattle.laws.specs.Onsets.{signs_of}
use Rattle.wire.specs.Bytes.{symbols_bytes}
use Rattle.score.specs.declared.Layout.{Layout}
use Rattle.rows.specs.declared.Rows.{Rows}
use Rattle.rows.specs.Rows.{voice_in}
use Rattle.reading.specs.declared.Heard.{Heard}
use Rattle.reading.specs.Told.{heard_meant}
use Rattle.readback.specs.declared.ReadBack.{ReadBack}
use Rattle.readback.specs.Checked.{bars_or_refusal}

-- the bytes of all symbols that are printed of a voice
abbrev pub page_of : Rows → Layout → List ℕ
page_of r y = symbols_bytes (printed y.key y.bar (voice_in r))

abbrev pub unless_refused : Result ℕ Refusal → ReadBack → Result ReadBack Refusal
unless_refused (Ok n) b = Ok b
unless_refused (Err e) b = Err e

abbrev pub answered : Rows → Layout → ℕ → ℕ → ℕ → Result ReadBack Refusal
answered r y page signs notes = unless_refused (bars_or_refusal r y page signs notes) (record { bytes = length (page_of r y); notes = length (heard (voice_in r) 0) })

-- The voice is printed over the front of the page, its signs lie over the front of theirs, and what was heard of it, over the front of the notes, is
-- what the voice means: every note at its time, as long as it is, at its tone, and nothing else. What lies behind is as it was.
pub record Back (r : Rows) (y : Layout) (b : ReadBack) (page page' signs signs' : List ℕ) (notes notes' : List Heard) : Type 0 where
  pub printed_so : page' ≡ page_of r y ++ drop b.bytes page
  pub signed_so : signs' ≡ signs_of y.key y.bar (voice_in r) ++ drop (length r.lengths.now) signs
  pub heard_so : map heard_meant (take b.notes notes') ≡ heard (voice_in r) 0
  pub behind : drop b.notes notes' ≡ drop b.notes notes

pub record Unchanged (page page' signs signs' : List ℕ) (notes notes' : List Heard) : Type 0 where
  pub same_page : page' ≡ page
  pub same_signs : signs' ≡ signs
  pub same_notes : notes' ≡ notes
