pub mod AgendaLemmas
pub mod BlockLemmas
pub mod FireLemmas
pub mod RunLemmas
pub mod ThreadLemmas
pub mod TimesLemmas
