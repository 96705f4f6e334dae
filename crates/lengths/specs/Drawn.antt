-- What is known of a value that is found, and of a part that lies in a bar. Assumes nothing: these are definitions.
use Rattle.std.specs.Prelude.{◌≡◌, ℕ, ◌+◌, ◌-◌, ◌%◌, ◌<◌, ◌≤◌}
use Rattle.score.specs.Print.{all_values, largest, lesser}

-- v is the largest value that n ticks have room for, or 0 where there is none; the rest follows from that
pub record Largest (n v : ℕ) : Type 0 where
  pub is : v ≡ largest n all_values
  pub within : v ≤ n
  pub small : v ≤ 192
  pub three : v % 3 ≡ 0
  pub some : 3 ≤ n → 0 < v

-- p of the d ticks that are left of an event lie in a bar of b ticks, of which o are gone
pub record InBar (d b o p : ℕ) : Type 0 where
  pub is : p ≡ lesser d (b - o)
  pub within : p ≤ d
  pub fits : o + p ≤ b
  pub some : 0 < d → o < b → 0 < p
  pub three : d % 3 ≡ 0 → b % 3 ≡ 0 → o % 3 ≡ 0 → p % 3 ≡ 0
