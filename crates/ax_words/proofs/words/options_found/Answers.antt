use Rattle.std.proofs.Common.{◌∙◌, sym}
use Rattle.clap.specs.Words.{first_value, found_of}
use Rattle.ax_words.proofs.Found.{found, no_shards, no_threads}
use Rattle.ax_words.proofs.words.options_found.Goals as goal

pub returns-in_err-shards : goal.returns-in_err-shards
returns-in_err-shards c =
    c.from_residual-in_err-shards.ensures
    ∙ sym (no_shards (first_value (found_of c.args.matches.now)) c.in_ok-groups.groups c.in_ok-in_flight.in_flight c.in_ok-batch.batch
    (sym c.in_ok-groups.ensures.number) (sym c.in_ok-in_flight.ensures.number) (sym c.in_ok-batch.ensures.number) (sym c.in_err-shards.ensures.number))

pub returns-in_err-io_threads : goal.returns-in_err-io_threads
returns-in_err-io_threads c =
    c.from_residual-in_err-io_threads.ensures
    ∙ sym (no_threads (first_value (found_of c.args.matches.now)) c.in_ok-groups.groups c.in_ok-in_flight.in_flight c.in_ok-batch.batch
    (sym c.in_ok-groups.ensures.number) (sym c.in_ok-in_flight.ensures.number) (sym c.in_ok-batch.ensures.number) (sym c.in_err-io_threads.ensures.number))

pub returns : goal.returns
returns c =
    sym (found (first_value (found_of c.args.matches.now)) c.in_ok-groups.groups c.in_ok-in_flight.in_flight c.in_ok-batch.batch
    (sym c.in_ok-groups.ensures.number) (sym c.in_ok-in_flight.ensures.number) (sym c.in_ok-batch.ensures.number)
    c.in_ok-shards.shards c.in_ok-io_threads.io_threads (sym c.in_ok-shards.ensures.number) (sym c.in_ok-io_threads.ensures.number))
