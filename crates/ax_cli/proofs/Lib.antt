mod Alone
mod Says
