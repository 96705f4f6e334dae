-- An event that cannot be written, or a voice that is not there, turns a put and a change away.
use Rattle.score.specs.Meaning.{event_meant}
use Rattle.voices.proofs.Found.{unfine, no_voice}
use Rattle.voices.proofs.reading.Stored.find_writable.Goals as goal

pub returns-in_default : goal.returns-in_default
returns-in_default c = unfine c.args.self.words.now c.args.self.holds c.args.voice (event_meant c.args.event) c.in_default.ensures

pub returns-in_default-find_voice : goal.returns-in_default-find_voice
returns-in_default-find_voice c = no_voice c.args.self.words.now c.args.self.holds c.args.voice (event_meant c.args.event) c.in-Some.ensures.1 c.in_default-find_voice.ensures
