mod Endings
mod ResultTexts
mod Scripts
mod Statuses
mod Tellings
