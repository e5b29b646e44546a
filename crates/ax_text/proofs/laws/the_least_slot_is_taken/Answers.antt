use Rattle.ax_text.proofs.LeastSlots.{begin_least, give_least, takes_rise, is_least}
use Rattle.ax_text.proofs.laws.the_least_slot_is_taken.Goals as goal

pub returns-clause-begin : goal.returns-clause-begin
returns-clause-begin c f k used t = begin_least f k used t

pub returns-clause-give : goal.returns-clause-give
returns-clause-give c f k s a t = give_least f k s a t

pub returns-clause-rise : goal.returns-clause-rise
returns-clause-rise c used asks h = takes_rise used asks h

pub returns-clause-least : goal.returns-clause-least
returns-clause-least c used = is_least used
