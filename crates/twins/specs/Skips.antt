-- Which items of a row need not be looked at: for each item the next from it on that has to be, a byte each, in the last n·n bytes of the area.
use Rattle.std.specs.Prelude.{ℕ, ◌+◌, ◌*◌, ◌≤◌, ◌<◌, ◌≡◌, List, length, get_or, take, drop}
use Rattle.rules.specs.Rule.{rule}
use Rattle.rules.specs.Levels.{number_at, level_of}

-- w is an item from m on, or n, and none before it from m on is connected with v by the table s
pub record Next (n : ℕ) (s : List ℕ) (v m w : ℕ) : Type 0 where
  pub up : m ≤ w
  pub few : w ≤ n
  pub zeros : (x : ℕ) → m ≤ x → x < w → number_at n s v x ≡ 0

-- these stand in the area, for every pair (v,m)
pub record Skips (n : ℕ) (s area : List ℕ) : Type 0 where
  pub room : 9 * (n * n) ≤ length area
  pub next_at : (v m : ℕ) → v < n → m < n → Next n s v m (get_or area (8 * (n * n) + (v * n + m)) 0)

-- they stand for the first halves of every split of level i
pub record Laid (n i : ℕ) (levels area : List ℕ) : Type 0 where
  pub room : 9 * (n * n) ≤ length area
  pub skips : (c : ℕ) → c < rule.many i → Skips n (level_of n levels (rule.first i c)) area

-- the row of v is written: the bytes before and behind it are as they were
pub record SkipRow (n : ℕ) (s : List ℕ) (v : ℕ) (area area' : List ℕ) : Type 0 where
  pub next_at : (m : ℕ) → m < n → Next n s v m (get_or area' (8 * (n * n) + (v * n + m)) 0)
  pub front : take (8 * (n * n) + v * n) area' ≡ take (8 * (n * n) + v * n) area
  pub behind : drop (8 * (n * n) + (v * n + n)) area' ≡ drop (8 * (n * n) + (v * n + n)) area
  pub size : length area' ≡ length area

-- the first 8·n² bytes, and what lies past the first 9·n², are as they were
pub record Aside (n : ℕ) (area area' : List ℕ) : Type 0 where
  pub front : take (8 * (n * n)) area' ≡ take (8 * (n * n)) area
  pub rest : drop (9 * (n * n)) area' ≡ drop (9 * (n * n)) area
  pub size : length area' ≡ length area
