-- What the objects in memory show, and which of their calls fail.
use Rattle.std.specs.Prelude.{ℕ, zero, suc, List, map, filter, ◌==◌, Some}
use Rattle.sf_world.specs.Named.{named_bytes}
use Rattle.sf_world.specs.Views.{InputsView, ShelfView, SinkView, told_sink}
use Rattle.sf_world.specs.declared.kept.Node.{out-Node}
use Rattle.sf_world.specs.declared.mem_inputs.MemInputs.{MemInputs}
use Rattle.sf_world.specs.declared.mem_shelf.MemShelf.{MemShelf}
use Rattle.sf_world.specs.declared.mem_sink.MemSink.{MemSink}
use Rattle.sf_world.specs.inner.Files.{files_of}
use Rattle.sf_world.specs.inner.Room.{room_for}

-- the bytes of a sink
abbrev pub contents_of : MemSink → List ℕ
contents_of sink = (out-Node sink.node.value).contents

-- what a sink shows
abbrev pub sink_seen : MemSink → SinkView
sink_seen sink = told_sink (contents_of sink) sink.calls.faults

-- what a shelf shows
abbrev pub shelf_seen : MemShelf → ShelfView
shelf_seen shelf = record { names = shelf.names.items; files = Some (files_of shelf.files); faults = shelf.calls.faults }

-- what inputs show
abbrev pub inputs_seen : MemInputs → InputsView
inputs_seen inputs = record {
  holds = named_bytes inputs.named.items;
  asked = inputs.asked.items;
  returned = inputs.returned.items;
  faults = inputs.faults;
  misses = inputs.misses;
  spare = room_for inputs.returned;
}

-- the numbers of the failing reads of each source
abbrev pub failing_reads : MemInputs → List ℕ
failing_reads inputs = inputs.failing.items

-- the numbers of the failing calls of an object: 0 is the shelf, and k its k-th sink
abbrev pub failing_calls : MemShelf → ℕ → List ℕ
failing_calls shelf zero = shelf.calls.failing.items
failing_calls shelf (suc k) = map (λ pair. pair.1) (filter (λ pair. pair.0 == suc k) shelf.sink_failing.items)
