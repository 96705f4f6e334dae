-- Each turn plays a symbol and writes down what has ended by it.
use Rattle.std.proofs.Common.{◌≡◌, ◌<◌, [], ◌++◌, map, length, sym, refl, ap, ◌∙◌, ap₂, arith, length-drop, rules}
use Rattle.std.proofs.lemmas.List.{append-nil, take_rest}
use Rattle.score.specs.Meaning.{symbol_meant}
use Rattle.reading.specs.Player.{State, lasts}
use Rattle.reading.specs.Symbols.{symbols_of}
use Rattle.reading.specs.Told.{state_of, heard_meant, listed}
use Rattle.reading.proofs.FewNotes.{few_symbols}
use Rattle.reading.proofs.Steps.{to_hear, time_after, begins, ends_all}
use Rattle.reading.proofs.Rows.{first_plays}
use Rattle.reading.proofs.Hearing.{one_note, plays_on, starts, room, write, all}
use Rattle.reading.proofs.play_row.Goals as goal
use Rattle.reading.proofs.play_row.Goals.{In-Some, After-play-played, After-let_go}

pub symbols-init : goal.symbols-init
symbols-init c = record {
  noted = starts _ c.args.heard.now _ (begins c.args.signature (symbols_of c.args.symbols.now.0.now) c.begin_bar.new.holds c.begin_bar.ensures);
  in_time = omega arith;
  row = omega arith;
  within = omega arith;
  taken = refl;
}

-- no symbol is longer than its two bytes say
short : (c : In-Some) → lasts (symbol_meant c.in-Some.symbol) < 65536
short c = search rules

pub play-played-requires : goal.play-played-requires
play-played-requires c =
    let s = c.in-Some.ensures.steps.gives in
    record {
      playable = first_plays _ _ _ s;
      time = omega (arith, ap length s, few_symbols c.args.symbols.now.0.now, short (goal.at.play-played-requires c).In-Some);
    }

-- what was to be heard before a symbol, as what ends by it and what is to be heard behind it
turn : (c : After-play-played) →
    to_hear c.args.signature (symbols_of c.symbols.symbols.0.now) (state_of c.symbols.player.0 c.symbols.player.1.0 c.symbols.holds)
    ≡ map heard_meant (listed c.play-played.result.first ++ listed c.play-played.result.second)
    ++ to_hear c.args.signature (symbols_of c.next.new.self.0.now) (state_of c.play-played.result.player.time c.play-played.result.player.held c.play-played.new.holds)
turn c =
    let s = c.in-Some.ensures.steps.gives in
    let y = state_of c.symbols.player.0 c.symbols.player.1.0 c.symbols.holds in
    ap (λ xs. to_hear c.args.signature xs y) s
    ∙ plays_on c.args.signature (symbol_meant c.in-Some.symbol) _ y _ c.play-played.result.first c.play-played.result.second (first_plays _ _ _ s) (omega arith) c.play-played.ensures.keeps
    (ap₂ ◌++◌ c.play-played.ensures.first c.play-played.ensures.second)

pub write_both-notes-requires : goal.write_both-notes-requires
write_both-notes-requires c =
    let r = room (listed c.play-played.result.first ++ listed c.play-played.result.second) _ c.symbols.invariant.noted (turn (goal.at.write_both-notes-requires c).After-play-played) c.requires.room (omega arith) in
    simp (take_rest, length-drop) (omega (arith, r))

pub symbols-preserved : goal.symbols-preserved
symbols-preserved c = record {
  noted = write (listed c.play-played.result.first ++ listed c.play-played.result.second) c.write_both-notes.new.heard c.write_both-notes.result _ c.symbols.invariant.noted (turn (goal.at.symbols-preserved c).After-play-played) c.requires.room (omega arith) c.write_both-notes.ensures.many c.write_both-notes.ensures.wrote;
  in_time = omega (arith, ap length c.in-Some.ensures.steps.gives, short (goal.at.symbols-preserved c).In-Some, ap (λ (y : State). y.time) c.play-played.ensures.keeps ∙ time_after c.args.signature (symbol_meant c.in-Some.symbol) (state_of c.symbols.player.0 c.symbols.player.1.0 c.symbols.holds));
  row = omega arith;
  within = search rules;
  taken = omega (arith, ap length c.in-Some.ensures.steps.gives, few_symbols c.symbols.symbols.0.now, ap length c.in-Some.ensures.steps.takes ∙ length-drop 5 c.symbols.symbols.0.now);
}

-- at the end no symbol is left, and what is held is let go
rest : (c : After-let_go) →
    to_hear c.args.signature (symbols_of c.symbols.symbols.0.now) (state_of c.symbols.player.0 c.symbols.player.1.0 c.symbols.holds) ≡ map heard_meant (listed c.let_go.result) ++ []
rest c =
    let y = state_of c.symbols.player.0 c.symbols.player.1.0 c.symbols.holds in
    ap (λ xs. to_hear c.args.signature xs y) c.in_default.ensures.steps.gives.0 ∙ ends_all c.args.signature y
    ∙ sym c.let_go.ensures ∙ one_note c.let_go.result ∙ sym (append-nil (map heard_meant (listed c.let_go.result)))

pub write_note-requires : goal.write_note-requires
write_note-requires c =
    let r = room (listed c.let_go.result) [] c.symbols.invariant.noted (rest c) c.requires.room (omega arith) in
    simp (take_rest, length-drop) (omega (arith, r))

pub returns : goal.returns
returns c =
    let w = write (listed c.let_go.result) c.write_note.new.heard c.write_note.result [] c.symbols.invariant.noted (rest (goal.at.returns c).After-let_go) c.requires.room (omega arith) c.write_note.ensures.many c.write_note.ensures.wrote in
    record {
      notes = (all w).1;
      wrote = (all w).0;
      rest = w.back;
      taken = omega (arith, ap length c.in_default.ensures.steps.gives.0, ap length c.in_default.ensures.steps.gives.1, ap length c.in_default.ensures.steps.takes);
    }
