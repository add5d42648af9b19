-- A sink in memory.
use Rattle.std.specs.Prelude.{ℕ, ◌⊎◌, ◌<◌, ◌≤◌, List, ◌++◌, Contains, length, take}
use Rattle.craig_io.specs.Calls.{CallsMade, call_counted}
use Rattle.craig_io.specs.Faults.{raised}

-- the bytes held, how many it has room for, how many of them a write takes at most, and the writes so far
pub record MemSinkView : Type 0 where
  -- the bytes held, those written first at the front
  pub held : List ℕ
  -- how many it has room for
  pub room : ℕ
  -- how many a write takes at most
  pub piece : ℕ
  -- the writes so far, and those that are to fail
  pub calls : CallsMade

-- the bytes held fit the room, its memory is there, and a write may take one
pub record IsMemSink (len capacity room piece : ℕ) : Type 0 where
  -- the bytes held fit the room
  pub within : len ≤ room
  -- its memory is there
  pub reserved : room ≤ capacity
  -- a write may take a byte
  pub takes : 0 < piece

-- the next write fails: its number is listed, or the room is full
abbrev pub WriteFails : MemSinkView → Type 0
WriteFails s = Contains s.calls.fails (raised s.calls.made) ⊎ (s.room ≤ length s.held)

-- the first n of bytes stand behind those that were held, and one write more is counted
abbrev pub with_written : ℕ → List ℕ → MemSinkView → MemSinkView
with_written n bytes s = record s { held = s.held ++ take n bytes; calls = call_counted s.calls }
