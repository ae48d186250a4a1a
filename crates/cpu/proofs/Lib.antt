mod Uses
mod Translations
mod Refusals
