mod Accepting
mod Linking
mod Muting
