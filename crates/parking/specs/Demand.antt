-- S-1: 'Demand 3 holds too where the board is written and read back between calls of the list.' The lists of the
-- deadline's promise with parkings among their calls.
use Rattle.std.specs.Prelude.{ℕ, ◌+◌, ◌^◌, ◌<◌, ◌≡◌, Bool, true, false, cond, List, [], ◌∷◌, eqb}
use Rattle.clock.specs.Clock.{from_host}
use Rattle.board.specs.declared.Board.{Board}
use Rattle.board.specs.declared.calls.Call.{Call}
use Rattle.board.specs.declared.calls.Call.TheVariants.{
  HostTime,
  Read,
  Write,
  Advance,
  Deadline,
  Skip,
  Source,
  ControllerRead,
  ControllerWrite,
  Output,
}
use Rattle.board.specs.Loops.{All}
use Rattle.board.specs.Board.{line, sound}
use Rattle.board.specs.Demand.{PassesTime, after, adds, PromiseAfter}
use Rattle.image.specs.declared.Form.{Form}
use Rattle.image.specs.Image.{image_length, image_of}
use Rattle.parking.specs.Parking.{writing_of, reading_of}

-- a board is written in a form, and its image is read back; a board that is refused comes back as it was given
unfoldable pub parked_and_read : Form → Board → Board
parked_and_read f b =
    cond (eqb (writing_of f b (image_length f)).refusal 0) (reading_of (image_of f b)).board
    (writing_of f b (image_length f)).board

-- a call, or a parking in a form
pub data ParkingCall : Type 0 where
  call : Call → ParkingCall
  parking : Form → ParkingCall

-- the seconds of a host-time call fit in a word, as an image has them
abbrev pub HostFits : Call → Type 0
HostFits (HostTime nanoseconds seconds) = seconds < 2 ^ 64
HostFits (Read address) = Unit {0}
HostFits (Write byte address) = Unit {0}
HostFits (Advance c) = Unit {0}
HostFits Deadline = Unit {0}
HostFits Skip = Unit {0}
HostFits (Source number level) = Unit {0}
HostFits (ControllerRead address) = Unit {0}
HostFits (ControllerWrite byte address) = Unit {0}
HostFits Output = Unit {0}

-- a call of the promise's lists: an advance, a host-time call whose seconds fit in a word, or a parking
abbrev pub PassesOrParks : ParkingCall → Type 0
PassesOrParks (call a) = PassesTime a × HostFits a
PassesOrParks (parking f) = Unit {0}

unfoldable pub after_parking : ParkingCall → Board → Board
after_parking (call a) b = after a b
after_parking (parking f) b = parked_and_read f b

-- a parking adds no cycles
unfoldable pub adds_parking : ParkingCall → Board → ℕ
adds_parking (call a) b = adds a b
adds_parking (parking f) b = 0

unfoldable pub after_parkings : List ParkingCall → Board → Board
after_parkings [] b = b
after_parkings (a ∷ calls) b = after_parkings calls (after_parking a b)

unfoldable pub cycles_with_parkings : List ParkingCall → Board → ℕ
cycles_with_parkings [] b = 0
cycles_with_parkings (a ∷ calls) b = adds_parking a b + cycles_with_parkings calls (after_parking a b)

-- the deadline's promise, over these lists
abbrev pub ParkingPromise : Board → Bool → ℕ → ℕ → Type 0
ParkingPromise b present d word =
    sound b ≡ true → line b ≡ false → from_host b.clock.control ≡ false →
    (calls : List ParkingCall) → All PassesOrParks calls →
    PromiseAfter present d word b (cycles_with_parkings calls b) (after_parkings calls b)
