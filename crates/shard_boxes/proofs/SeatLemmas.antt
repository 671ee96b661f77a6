-- What a key shows of each shard after a take and a put.
use Rattle.std.proofs.Common.{◌≡◌, ◌≢◌, ℕ, ◌<◌, true, List, length, Option}
use Rattle.std.proofs.lemmas.List.{get_or-set_same, get_or-set_other, length-set}
use Rattle.shard_boxes.specs.Keys.{KeyState, SeatState, no_seat, seat_at, with_seat, taking, putting, put_seat}
use Rattle.shard_boxes.specs.Lines.{Line}

pub seat-same : (key : KeyState) (s : ℕ) (seat : SeatState) → s < length key.seats → seat_at (with_seat key s seat) s ≡ seat
seat-same key s seat below = get_or-set_same key.seats s seat no_seat below

pub seat-other : (key : KeyState) (s t : ℕ) (seat : SeatState) → t ≢ s → seat_at (with_seat key s seat) t ≡ seat_at key t
seat-other key s t seat other = get_or-set_other key.seats s t seat no_seat other

pub taking-same : (key : KeyState) (s : ℕ) (lines : List (ℕ × Line)) → s < length key.seats → seat_at (taking key s lines) s ≡ record (seat_at key s) { holds = true; seen = lines }
taking-same key s lines below = seat-same key s (record (seat_at key s) { holds = true; seen = lines }) below

pub taking-other : (key : KeyState) (s t : ℕ) (lines : List (ℕ × Line)) → t ≢ s → seat_at (taking key s lines) t ≡ seat_at key t
taking-other key s t lines other = seat-other key s t (record (seat_at key s) { holds = true; seen = lines }) other

pub putting-same : (key : KeyState) (s : ℕ) (line : Option Line) → s < length key.seats → seat_at (putting key s line) s ≡ put_seat key.worker (seat_at key s) line
putting-same key s line below = seat-same key s (put_seat key.worker (seat_at key s) line) below

pub putting-other : (key : KeyState) (s t : ℕ) (line : Option Line) → t ≢ s → seat_at (putting key s line) t ≡ seat_at key t
putting-other key s t line other = seat-other key s t (put_seat key.worker (seat_at key s) line) other

pub length-with_seat : (key : KeyState) (s : ℕ) (seat : SeatState) → length (with_seat key s seat).seats ≡ length key.seats
length-with_seat key s seat = length-set key.seats s seat
