-- What a writer was asked to do, by the calls that it noted.
use Rattle.std.specs.Prelude.{true, List, [], ◌∷◌}
use Rattle.trace_model.specs.Calls.{Call, Begun, GivenUp}

-- What was asked of a writer that noted these calls: each of them in its order, flushes too. A packet that was dropped at its begin was asked for like one
-- that was kept. That a packet was given up nobody asked for: the writer notes it by itself.
abbrev pub done_calls : List Call → List Call
done_calls [] = []
done_calls (Begun kept ∷ calls) = Begun true ∷ done_calls calls
done_calls (GivenUp ∷ calls) = done_calls calls
done_calls (call ∷ calls) = call ∷ done_calls calls
