-- A state as the struct that keeps its numbers.
use Rattle.streams.specs.Next.{stored_of}
use Rattle.streams.specs.declared.State.{State}
use Rattle.states.specs.State.{numbers_of, counts_of, reading_of}
use Rattle.states.specs.declared.Stored.{Stored}

abbrev pub stored_as : State → Stored
stored_as st = record { numbers = numbers_of st; counts = counts_of st; stored_time = stored_of st; reading = reading_of st }
